use Rattle.std.proofs.Common.{refl, sym, ◌∙◌}
use Rattle.std.proofs.lemmas.Result.{err_from_is_err_and}
use Rattle.asn1_core.proofs.Finish.{finished_err, finished_ok}
use Rattle.asn1_core.proofs.parser.parse.Goals as goal

pub returns-in_err-answer : goal.returns-in_err-answer
returns-in_err-answer g c =
    let p = err_from_is_err_and c.from_residual.result c.from_residual.ensures.1 in
    (c.f.new.arg2, c.f.result, record { shown = _; shows = c.new-parser.ensures; left = _; met = c.f.ensures; leaves = refl }, rw (c.in_err-answer.was, p.1, p.2) refl)

pub returns-in_err-finish : goal.returns-in_err-finish
returns-in_err-finish g c = (
  c.f.new.arg2,
  c.f.result,
  record { shown = _; shows = c.new-parser.ensures; left = _; met = c.f.ensures; leaves = refl },
  rw c.in_ok-answer.was (finished_err g.E.From.from_gives _ _ _ _ (sym c.finish.ensures ∙ c.in_err-finish.was) c.from_residual-in_err-finish.ensures.1),
)

pub returns : goal.returns
returns g c = (
  c.f.new.arg2,
  c.f.result,
  record { shown = _; shows = c.new-parser.ensures; left = _; met = c.f.ensures; leaves = refl },
  rw c.in_ok-answer.was (finished_ok g.E.From.from_gives _ _ _ (sym c.finish.ensures ∙ c.in_ok-finish.was)),
)
