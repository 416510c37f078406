use Rattle.std.proofs.Common.{◌<◌, ◌∷◌, length, List, ℕ, ap, sym, ◌∙◌, arith}
use Rattle.std.proofs.lemmas.Bool.{eqb-false}
use Rattle.dercheck.specs.Lines.{option_split}
use Rattle.dercheck.proofs.Cuts.{lines_of_cut, lines_of_uncut, lines_of_none, length_cut}
use Rattle.dercheck.proofs.lines.next_line.Goals as goal

pub returns-in-Some-clause-line : goal.returns-in-Some-clause-line
returns-in-Some-clause-line c =
    lines_of_cut c.args.text.now (c.in-Some.line.now, c.in-Some.after.now) (sym c.split_once.ensures ∙ ap option_split c.in-Some.is)

pub returns-in-Some-clause-shorter : goal.returns-in-Some-clause-shorter
returns-in-Some-clause-shorter c =
    length_cut c.args.text.now (c.in-Some.line.now, c.in-Some.after.now) (sym c.split_once.ensures ∙ ap option_split c.in-Some.is)

pub returns-in-None-clause-line : goal.returns-in-None-clause-line
returns-in-None-clause-line c =
    let octets : List ℕ = c.args.text.now in
    let some : 0 < length octets = omega (arith, eqb-false (length octets) 0 (sym c.is_empty.ensures ∙ c.if-is_empty.false)) in
    lines_of_uncut octets some (sym c.split_once.ensures ∙ ap option_split c.in-None.is)
    ∙ ap (λ (lines : List (List ℕ)). octets ∷ lines) (sym lines_of_none)
