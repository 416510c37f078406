use Rattle.std.proofs.Common.{◌≡◌, List, Bor, ap, ◌∙◌}
use Rattle.std.specs.Cmp.Lexicographic.{pointwise}
use Rattle.std.proofs.lemmas.Cmp.{lists_equiv}
use Rattle.asn1.proofs.laws_equality.slices_are_cloned.Goals as goal

pub returns-clause-sequence : goal.returns-clause-sequence
returns-clause-sequence g c a b same =
    let e : b.items ≡ a.items = same in
    ap (λ (items : Bor (List _)). pointwise g.T.PartialEq.eq items.now a.items.now) e ∙ (lists_equiv g.met.T.Eq.laws).refl a.items.now

pub returns-clause-set : goal.returns-clause-set
returns-clause-set g c a b same =
    let e : b.items ≡ a.items = same in
    ap (λ (items : Bor (List _)). pointwise g.T.PartialEq.eq items.now a.items.now) e ∙ (lists_equiv g.met.T.Eq.laws).refl a.items.now
