use Rattle.std.proofs.Common.{◌≡◌, ◌&&◌, ℕ, Bool, true, false, List, [], ◌++◌, refl, sym, ap, ◌∙◌}
use Rattle.std.specs.List.{list_all}
use Rattle.std.proofs.lemmas.List.{append-nil}
use Rattle.dercheck.specs.Lines.{lines_of}
use Rattle.dercheck.specs.Replies.{answers, is_ok_line}
use Rattle.dercheck.proofs.Cuts.{lines_of_none}
use Rattle.dercheck.proofs.answers.push_replies.Goals as goal

answers-none : (octets : List ℕ) → octets ≡ [] → answers octets ≡ []
answers-none octets none = rw (none, lines_of_none) refl

all-none : (octets : List ℕ) → octets ≡ [] → list_all is_ok_line (lines_of octets) ≡ true
all-none octets none = rw (none, lines_of_none) refl

and-true : (b : Bool) → b ≡ (b && true)
and-true true = refl
and-true false = refl

pub returns-clause-ok : goal.returns-clause-ok
returns-clause-ok c =
    let written : List ℕ = c.loop-line.out.items in
    sym (append-nil written)
    ∙ ap (λ (xs : List ℕ). written ++ xs) (sym (answers-none c.loop-line.rest.now c.in_default.ensures.none))
    ∙ c.loop-line.invariant.octets

pub returns-clause-all_ok : goal.returns-clause-all_ok
returns-clause-all_ok c =
    and-true c.loop-line.all_ok
    ∙ ap (λ (b : Bool). c.loop-line.all_ok && b) (sym (all-none c.loop-line.rest.now c.in_default.ensures.none))
    ∙ c.loop-line.invariant.all_ok
