use Rattle.asn1_values.specs.Lemmas.Big.{IsSignedForm_IsSigned}
use Rattle.asn1_values.proofs.values.big.BigInt.as_bytes.Goals as goal

pub returns-clause-content : goal.returns-clause-content
returns-clause-content c = IsSignedForm_IsSigned c.args.self.now.octets.now c.args.self.now.is_content
