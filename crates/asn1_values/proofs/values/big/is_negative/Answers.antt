use Rattle.asn1_values.specs.Lemmas.Big.{int_lt_signed_number}
use Rattle.asn1_values.proofs.values.big.is_negative.Goals as goal

pub returns : goal.returns
returns c = int_lt_signed_number c.args.octets.now c.requires.octets
