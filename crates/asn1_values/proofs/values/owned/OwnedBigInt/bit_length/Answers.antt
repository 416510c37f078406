use Rattle.std.proofs.Common.{subst, sym}
use Rattle.asn1_values.specs.Big.{IsSigned}
use Rattle.asn1_values.specs.Lemmas.Big.{IsSignedForm_IsSigned}
use Rattle.asn1_values.proofs.values.owned.OwnedBigInt.bit_length.Goals as goal

pub bit_length-requires-clause-content : goal.bit_length-requires-clause-content
bit_length-requires-clause-content c = subst IsSigned (sym c.as_slice.ensures.value) (IsSignedForm_IsSigned c.args.self.now.octets.items c.args.self.now.is_content)
