use Rattle.asn1_core.proofs.Stands.{joins_have_one_cutting}
use Rattle.asn1_core.proofs.laws.joins_have_one_cutting.Goals as goal

pub returns : goal.returns
returns c = joins_have_one_cutting
