use Rattle.std.proofs.Common.{ℕ, suc, ◌≡◌, ◌-◌, ◌+◌, List, length, Ok, false, nat_lt, refl, ap, ◌∙◌, arith}
use Rattle.std.proofs.lemmas.Bool.{le-ltb}
use Rattle.asn1_core.specs.Element.{Element, leading_element}
use Rattle.asn1_core.specs.Tlv.{element_of}
use Rattle.asn1.specs.ErrorOctets.{element_with}
use Rattle.asn1.proofs.error_octets.element_with.Goals as goal

-- an element that doesn't have the octet is passed
passed : (most size octet start : ℕ) (rest : List ℕ) (found : Element × List ℕ) → leading_element rest ≡ Ok found → nat_lt octet (size - length found.1) ≡ false →
    element_with most size octet (size - length found.1) found.1 ≡ element_with (suc most) size octet start rest
passed most size octet start rest found is behind = rw (is, behind) refl

pub elements-preserved : goal.elements-preserved
elements-preserved c =
    let size = length c.args.octets.now in
    let more : suc (size - (c.elements._turn + 1)) ≡ size - c.elements._turn = omega (arith, c.elements-test.true) in
    let found : Element × List ℕ = (element_of c.in-Ok._element, c.in-Ok.left.now) in
    let behind : nat_lt c.args.octet (size - length found.1) ≡ false = le-ltb _ _ (rw (← c.saturating_sub-end.ensures) c.if-octet-end.false) in
    let step = passed (size - (c.elements._turn + 1)) size c.args.octet c.elements.start c.elements.rest.now found c.in-Ok.ensures.exact behind in (
      rw c.saturating_sub-end.ensures (step ∙ (ap (λ (most : ℕ). element_with most size c.args.octet c.elements.start c.elements.rest.now) more ∙ c.elements.invariant.0)),
      rw c.saturating_sub-end.ensures (omega arith),
    )
