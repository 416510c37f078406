use Rattle.std.proofs.Common.{subst}
use Rattle.asn1_values.specs.Big.{IsSignedForm}
use Rattle.asn1_values.specs.Lemmas.Big.{IsSigned_IsSignedForm}
use Rattle.asn1_values.proofs.values.owned.OwnedBigInt.new.Goals as goal

pub invariant_of-result : goal.invariant_of-result
invariant_of-result c =
    let form = IsSigned_IsSignedForm c.as_slice.result.now (c.is_signed_content.ensures.0 c.if-not-is_signed_content.false) in
    record { is_content = subst IsSignedForm c.as_slice.ensures.value form }
