use Rattle.std.proofs.Common.{refl, sym, ◌∙◌}
use Rattle.std.proofs.lemmas.List.{take_rest}
use Rattle.dercheck.proofs.Cuts.{split_once_found, split_once_missing}
use Rattle.dercheck.proofs.lines.split_once.Goals as goal

pub returns-in_err-at : goal.returns-in_err-at
returns-in_err-at c =
    rw (c.from_residual.ensures, split_once_missing c.args.octet c.args.text.now (sym c.place_of.ensures ∙ c.in_err-at.was)) refl

pub returns : goal.returns
returns c =
    rw (take_rest, split_once_found c.args.octet c.args.text.now c.in_ok-at.at (sym c.place_of.ensures ∙ c.in_ok-at.was)) refl
