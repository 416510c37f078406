use Rattle.asn1_core.specs.Lemmas.Integers.{nine_bits_tell}
use Rattle.asn1_core.proofs.laws_integers.nine_bits_tell.Goals as goal

pub returns : goal.returns
returns c = nine_bits_tell
