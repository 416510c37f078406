use Rattle.dercheck.proofs.RequestLaws.{requests_are_right}
use Rattle.dercheck.proofs.AnswerLaws.{bad_lines_are_bad, values_are_ok, ok_lines_are_ok, faults_are_err}
use Rattle.dercheck.proofs.laws.answers_are_right.Goals as goal

pub returns-clause-requests : goal.returns-clause-requests
returns-clause-requests c = requests_are_right

pub returns-clause-bad : goal.returns-clause-bad
returns-clause-bad c = bad_lines_are_bad

pub returns-clause-ok : goal.returns-clause-ok
returns-clause-ok c = values_are_ok

pub returns-clause-ok_lines : goal.returns-clause-ok_lines
returns-clause-ok_lines c = ok_lines_are_ok

pub returns-clause-err : goal.returns-clause-err
returns-clause-err c = faults_are_err
