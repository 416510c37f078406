use Rattle.asn1_values.specs.Lemmas.Big.{IsUnsigned_IsUnsignedForm}
use Rattle.asn1_values.proofs.values.big.BigUint.new.Goals as goal

pub invariant_of-result : goal.invariant_of-result
invariant_of-result c = record { is_content = IsUnsigned_IsUnsignedForm c.args.octets.now (c.is_unsigned_content.ensures.0 c.if-not-is_unsigned_content.false) }
