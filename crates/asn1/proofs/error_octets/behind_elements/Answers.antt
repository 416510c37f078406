use Rattle.std.proofs.Common.{ℕ, suc, ◌≡◌, ◌-◌, ◌+◌, List, length, Ok, Err, refl, ap, sym, ◌∙◌, arith}
use Rattle.asn1_core.specs.declared.parser.ParseErrorKind.{ParseErrorKind}
use Rattle.asn1_core.specs.Element.{Element, leading_element}
use Rattle.asn1_core.specs.Tlv.{element_of}
use Rattle.asn1.specs.ErrorOctets.{behind_elements}
use Rattle.asn1.proofs.error_octets.behind_elements.Goals as goal

passed : (most : ℕ) (rest : List ℕ) (found : Element × List ℕ) → leading_element rest ≡ Ok found → behind_elements most found.1 ≡ behind_elements (suc most) rest
passed most rest found is = rw (behind_elements, is) refl

stays : (most : ℕ) (rest : List ℕ) (kind : ParseErrorKind) → leading_element rest ≡ Err kind → behind_elements (suc most) rest ≡ rest
stays most rest kind is = rw (behind_elements, is) refl

pub elements-preserved : goal.elements-preserved
elements-preserved c =
    let size = length c.args.octets.now in
    let more : suc (size - (c.elements._turn + 1)) ≡ size - c.elements._turn = omega (arith, c.elements-test.true) in
    let found : Element × List ℕ = (element_of c.in-Ok._element, c.in-Ok.left.now) in
    passed (size - (c.elements._turn + 1)) c.elements.rest.now found c.in-Ok.ensures.exact ∙ (ap (λ (most : ℕ). behind_elements most c.elements.rest.now) more ∙ c.elements.invariant)

pub returns-in-Err : goal.returns-in-Err
returns-in-Err c =
    let size = length c.args.octets.now in
    let more : suc (size - (c.elements._turn + 1)) ≡ size - c.elements._turn = omega (arith, c.elements-test.true) in
    sym (stays (size - (c.elements._turn + 1)) c.elements.rest.now _ c.in-Err.ensures.exact.0) ∙ (ap (λ (most : ℕ). behind_elements most c.elements.rest.now) more ∙ c.elements.invariant)
