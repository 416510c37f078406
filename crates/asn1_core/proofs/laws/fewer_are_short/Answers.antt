use Rattle.asn1_core.proofs.Stands.{fewer_are_short}
use Rattle.asn1_core.proofs.laws.fewer_are_short.Goals as goal

pub returns : goal.returns
returns c = fewer_are_short
