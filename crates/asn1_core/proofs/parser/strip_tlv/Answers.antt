use Rattle.std.proofs.Common.{◌≡◌, ◌<◌, ℕ, List, length, Result, Ok, Err, sym, ap, subst, ◌∙◌, arith}
use Rattle.std.specs.Prelude.{IfOk}
use Rattle.std.proofs.lemmas.List.{length-append}
use Rattle.std.specs.Borrow.{Bor}
use Rattle.asn1_core.specs.declared.parser.ParseErrorKind.{ParseErrorKind}
use Rattle.asn1_core.specs.declared.types.Tlv.{Tlv}
use Rattle.asn1_core.specs.Base256.{IsOctets}
use Rattle.asn1_core.specs.Element.{Element, IsLeadingElement, element_encoding, leading_element}
use Rattle.asn1_core.specs.ReadError.{ReadError, framed, ReturnsKind}
use Rattle.asn1_core.specs.Tlv.{element_of, stripped}
use Rattle.asn1_core.specs.Laws.{IsShort, with_more}
use Rattle.asn1_core.specs.Lemmas.Texts.{IsOctets_from_reads, IsOctets_append}
use Rattle.asn1_core.specs.Lemmas.Elements.{ElementFront, IsLeadingElement_leading_element, leading_element_only, length_content_lt}
use Rattle.asn1_core.proofs.Stands.{answers_stand, fewer_are_short}
use Rattle.asn1_core.proofs.parser.strip_tlv.Goals as goal

-- what `strip_tlv` returns is what is at the start
stripped_is : (r : Result (Tlv × Bor (List ℕ)) ParseErrorKind) (answer : Result (Element × List ℕ) ParseErrorKind) → ReturnsKind (λ x. (element_of x.0, x.1.now)) r answer → answer ≡ stripped (framed r)
stripped_is (Ok x) answer e = e
stripped_is (Err kind) answer e = e

answer : (c : goal.After-kind_as_error) → leading_element c.args.data.now ≡ stripped c.kind_as_error.result
answer c = stripped_is c.read_any_tlv.result (leading_element c.args.data.now) c.read_any_tlv.ensures.answer ∙ ap stripped (sym c.kind_as_error.ensures)

is_text : (c : goal.After-kind_as_error) → IsOctets c.args.data.now
is_text c = IsOctets_from_reads c.args.data.now (λ i. omega (arith, c.type_inv.data i))

pub returns-clause-grammar : goal.returns-clause-grammar
returns-clause-grammar c = subst (λ (a : ElementFront). IsLeadingElement c.args.data.now a) (answer c) (IsLeadingElement_leading_element c.args.data.now (is_text c))

pub returns-clause-only : goal.returns-clause-only
returns-clause-only c = λ a is. sym (answer c) ∙ leading_element_only c.args.data.now a (is_text c) is

pub returns-clause-stays : goal.returns-clause-stays
returns-clause-stays c = λ more is long.
    answers_stand c.args.data.now more (IsOctets_append c.args.data.now more (is_text c) is) (subst (λ (a : ElementFront). ¬ IsShort a) (sym (answer c)) long)
    ∙ ap (λ (a : ElementFront). with_more a more) (answer c)

pub returns-clause-fewer : goal.returns-clause-fewer
returns-clause-fewer c = λ more needed is short few.
    fewer_are_short c.args.data.now more needed (IsOctets_append c.args.data.now more (is_text c) is) (answer c ∙ short) few

-- after an element fewer octets remain
fewer_left : (t : List ℕ) (r : Result (Tlv × Bor (List ℕ)) ReadError) → IsLeadingElement t (stripped r) → IfOk r (λ x. length x.1.now < length t)
fewer_left t (Ok x) is = omega (arith, ap length is.1, length-append (element_encoding (element_of x.0)) x.1.now, length_content_lt (element_of x.0))
fewer_left t (Err f) is = tt

pub returns-clause-progress : goal.returns-clause-progress
returns-clause-progress c = fewer_left c.args.data.now c.kind_as_error.result (returns-clause-grammar c)
