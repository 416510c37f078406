use Rattle.asn1_values.specs.Lemmas.Big.{IsSigned_IsSignedForm}
use Rattle.asn1_values.proofs.values.big.BigInt.new.Goals as goal

pub invariant_of-result : goal.invariant_of-result
invariant_of-result c = record { is_content = IsSigned_IsSignedForm c.args.octets.now (c.is_signed_content.ensures.0 c.if-not-is_signed_content.false) }
