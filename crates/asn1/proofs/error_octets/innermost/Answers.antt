use Rattle.std.proofs.Common.{ℕ, suc, ◌≡◌, ◌-◌, ◌+◌, List, length, Some, None, refl, ap, sym, ◌∙◌, arith}
use Rattle.asn1.specs.ErrorOctets.{contents_with, innermost}
use Rattle.asn1.proofs.error_octets.innermost.Goals as goal

entered : (depth begin octet : ℕ) (octets : List ℕ) (inner : ℕ × List ℕ) → contents_with octets octet ≡ Some inner → innermost depth (begin + inner.0) inner.1 (octet - inner.0) ≡ innermost (suc depth) begin octets octet
entered depth begin octet octets inner is = rw (innermost, is) refl

pub elements-preserved : goal.elements-preserved
elements-preserved c =
    let size = length c.args.octets.now in
    let more : suc (size - (c.elements._depth + 1)) ≡ size - c.elements._depth = omega (arith, c.elements-test.true) in
    let inner : ℕ × List ℕ = (c.in-Some.start, c.in-Some.inner.now) in
    rw (c.in_ok-begin.ensures.1, c.saturating_sub.ensures) (entered (size - (c.elements._depth + 1)) c.elements.begin c.elements.octet c.elements.around.now inner c.in-Some.ensures.some
    ∙ (ap (λ (depth : ℕ). innermost depth c.elements.begin c.elements.around.now c.elements.octet) more ∙ c.elements.invariant))
