use Rattle.dercheck.proofs.LineLaws.{lines_are_right}
use Rattle.dercheck.proofs.laws.lines_are_right.Goals as goal

pub returns : goal.returns
returns c = lines_are_right
