use Rattle.asn1_values.specs.Lemmas.Big.{IsSignedForm_IsSigned}
use Rattle.asn1_values.proofs.values.big.BigInt.bit_length.Goals as goal

pub bit_length-requires-clause-content : goal.bit_length-requires-clause-content
bit_length-requires-clause-content c = IsSignedForm_IsSigned c.args.self.now.octets.now c.args.self.now.is_content
