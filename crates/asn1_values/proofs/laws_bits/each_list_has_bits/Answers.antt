use Rattle.asn1_values.proofs.BitLists.{each_list_has_bits}
use Rattle.asn1_values.proofs.laws_bits.each_list_has_bits.Goals as goal

pub returns : goal.returns
returns c = each_list_has_bits
