use Rattle.std.proofs.Common.{◌≡◌, Err, refl, sym, subst, ◌∙◌, arith}
use Rattle.asn1.specs.Element.{leading_element}
use Rattle.asn1.specs.Laws.{IsShort}
use Rattle.asn1.specs.Lemmas.Elements.{ElementFront}
use Rattle.asn1.specs.Lemmas.Texts.{IsOctets_from_reads}
use Rattle.dercheck.proofs.Headers.{not_IsShort_Err}
use Rattle.dercheck.proofs.header.needed_behind.Goals as goal

pub returns-in_default : goal.returns-in_default
returns-in_default c =
    let kind = c.kind.ensures in
    let long = not_IsShort_Err c.in-Err.e.kind (λ x e. c.in_default.not-ShortData x (kind ∙ e)) in
    let here : leading_element c.args.octets.now ≡ Err c.kind.result = c.in-Err.ensures.exact.0 ∙ rw kind refl in
    record {
      are_octets = IsOctets_from_reads c.args.octets.now (λ i. omega (arith, c.type_inv.octets i));
      long = subst (λ (a : ElementFront). ¬ IsShort a) (sym c.in-Err.ensures.exact.0) long;
      here = here;
      stands = λ more is. c.in-Err.ensures.stays more is long ∙ rw kind refl;
    }
