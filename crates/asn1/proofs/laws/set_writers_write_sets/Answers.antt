use Rattle.asn1.proofs.WrittenSets.{writes_sets}
use Rattle.asn1.proofs.laws.set_writers_write_sets.Goals as goal

pub returns : goal.returns
returns g c = writes_sets _
