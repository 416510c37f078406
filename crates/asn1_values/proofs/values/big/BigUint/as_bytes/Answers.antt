use Rattle.asn1_values.specs.Lemmas.Big.{IsUnsignedForm_IsUnsigned}
use Rattle.asn1_values.proofs.values.big.BigUint.as_bytes.Goals as goal

pub returns-clause-content : goal.returns-clause-content
returns-clause-content c = IsUnsignedForm_IsUnsigned c.args.self.now.octets.now c.args.self.now.is_content
