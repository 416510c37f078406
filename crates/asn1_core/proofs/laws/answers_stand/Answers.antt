use Rattle.asn1_core.proofs.Stands.{answers_stand}
use Rattle.asn1_core.proofs.laws.answers_stand.Goals as goal

pub returns : goal.returns
returns c = answers_stand
