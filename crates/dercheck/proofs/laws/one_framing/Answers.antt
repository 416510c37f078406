use Rattle.dercheck.proofs.Framings.{framing_some, framing_only}
use Rattle.dercheck.proofs.laws.one_framing.Goals as goal

pub returns-clause-some : goal.returns-clause-some
returns-clause-some c = framing_some

pub returns-clause-one : goal.returns-clause-one
returns-clause-one c = framing_only
