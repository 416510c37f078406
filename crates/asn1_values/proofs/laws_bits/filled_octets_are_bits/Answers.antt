use Rattle.asn1_values.proofs.BitLists.{filled_octets_are_bits}
use Rattle.asn1_values.proofs.laws_bits.filled_octets_are_bits.Goals as goal

pub returns : goal.returns
returns c = filled_octets_are_bits
