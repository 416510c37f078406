use Rattle.asn1_values.proofs.BitLists.{set_bits}
use Rattle.asn1_values.proofs.laws_bits.set_bits.Goals as goal

pub returns : goal.returns
returns c = set_bits
