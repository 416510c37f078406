use Rattle.asn1_values.proofs.BitLists.{one_bit_string}
use Rattle.asn1_values.proofs.laws_bits.one_bit_string.Goals as goal

pub returns : goal.returns
returns c = one_bit_string
