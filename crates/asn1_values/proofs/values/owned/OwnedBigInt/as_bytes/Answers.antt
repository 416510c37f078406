use Rattle.std.proofs.Common.{subst, sym}
use Rattle.asn1_values.specs.Big.{IsSigned}
use Rattle.asn1_values.specs.Lemmas.Big.{IsSignedForm_IsSigned}
use Rattle.asn1_values.proofs.values.owned.OwnedBigInt.as_bytes.Goals as goal

pub returns-clause-content : goal.returns-clause-content
returns-clause-content c = subst IsSigned (sym c.as_slice.ensures.value) (IsSignedForm_IsSigned c.args.self.now.octets.items c.args.self.now.is_content)
