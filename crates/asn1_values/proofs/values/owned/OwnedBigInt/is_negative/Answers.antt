use Rattle.std.proofs.Common.{subst, sym}
use Rattle.asn1_values.specs.Big.{IsSigned}
use Rattle.asn1_values.specs.Lemmas.Big.{IsSignedForm_IsSigned}
use Rattle.asn1_values.proofs.values.owned.OwnedBigInt.is_negative.Goals as goal

pub is_negative-requires : goal.is_negative-requires
is_negative-requires c = subst IsSigned (sym c.as_slice.ensures.value) (IsSignedForm_IsSigned c.args.self.now.octets.items c.args.self.now.is_content)
