use Rattle.asn1_core.proofs.Stands.{elements_are_apart}
use Rattle.asn1_core.proofs.laws.elements_are_apart.Goals as goal

pub returns : goal.returns
returns c = elements_are_apart
