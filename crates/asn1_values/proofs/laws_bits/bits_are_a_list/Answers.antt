use Rattle.asn1_values.proofs.BitLists.{bits_are_a_list}
use Rattle.asn1_values.proofs.laws_bits.bits_are_a_list.Goals as goal

pub returns : goal.returns
returns c = bits_are_a_list
