use Rattle.std.proofs.Common.{rules, ◌≡◌, ◌∙◌, ap, sym}
use Rattle.asn1_core.specs.Element.{Element, element_encoding}
use Rattle.asn1.proofs.laws_equality.elements_compare.Goals as goal

pub returns-clause-equality : goal.returns-clause-equality
returns-clause-equality c a b = (
  λ e. search rules,
  λ same.
      let tags : a.tag ≡ b.tag = ap (λ (x : Element). x.tag) same in
      let contents : a.«data».now ≡ b.«data».now = ap (λ (x : Element). x.content) same in
      let whole : a.full_data.now ≡ b.full_data.now = a.is_whole ∙ ap element_encoding same ∙ sym b.is_whole in
      rw (tags, contents, whole) (search rules),
)
