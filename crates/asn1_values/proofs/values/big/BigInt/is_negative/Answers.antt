use Rattle.asn1_values.specs.Lemmas.Big.{IsSignedForm_IsSigned}
use Rattle.asn1_values.proofs.values.big.BigInt.is_negative.Goals as goal

pub is_negative-requires : goal.is_negative-requires
is_negative-requires c = IsSignedForm_IsSigned c.args.self.now.octets.now c.args.self.now.is_content
