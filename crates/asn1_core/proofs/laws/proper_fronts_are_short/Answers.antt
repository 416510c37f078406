use Rattle.asn1_core.proofs.Stands.{proper_fronts_are_short}
use Rattle.asn1_core.proofs.laws.proper_fronts_are_short.Goals as goal

pub returns : goal.returns
returns c = proper_fronts_are_short
