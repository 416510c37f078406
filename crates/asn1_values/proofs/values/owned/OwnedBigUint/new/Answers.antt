use Rattle.std.proofs.Common.{subst}
use Rattle.asn1_values.specs.Big.{IsUnsignedForm}
use Rattle.asn1_values.specs.Lemmas.Big.{IsUnsigned_IsUnsignedForm}
use Rattle.asn1_values.proofs.values.owned.OwnedBigUint.new.Goals as goal

pub invariant_of-result : goal.invariant_of-result
invariant_of-result c =
    let form = IsUnsigned_IsUnsignedForm c.as_slice.result.now (c.is_unsigned_content.ensures.0 c.if-not-is_unsigned_content.false) in
    record { is_content = subst IsUnsignedForm c.as_slice.ensures.value form }
