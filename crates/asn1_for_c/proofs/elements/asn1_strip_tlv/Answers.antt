use Rattle.std.proofs.Common.{◌≡◌, ℕ, ◌<◌, length, List, Result, sym, ap, subst, ◌∙◌}
use Rattle.asn1.specs.declared.ParseErrorKind.{ParseErrorKind}
use Rattle.asn1.specs.Element.{Element}
use Rattle.asn1.specs.Tlv.{stripped}
use Rattle.asn1_for_c.specs.declared.errors.Asn1Error.{Asn1Error}
use Rattle.asn1_for_c.specs.Errors.{told}
use Rattle.asn1_for_c.proofs.Told.{told_not_IsShort, told_ShortData, Leaves_with_more, Leaves_length_le}
use Rattle.asn1_for_c.proofs.elements.asn1_strip_tlv.Goals as goal

number : (error : Asn1Error) (r : Result (Element × List ℕ) ParseErrorKind) → error ≡ told r → error.number ≡ (told r).number
number error r e = ap (λ (it : Asn1Error). it.number) e

pub returns-clause-within : goal.returns-clause-within
returns-clause-within c = λ none. Leaves_length_le c.args.element.now c.tell.new.element c.tell.new.error c.args.octets.now (stripped c.strip_tlv-found.result) c.strip_tlv-found.ensures.grammar c.tell.ensures none

pub returns-clause-stays : goal.returns-clause-stays
returns-clause-stays c = λ more is other.
    let answer = stripped c.strip_tlv-found.result in
    let same = c.strip_tlv-found.ensures.stays more is (told_not_IsShort answer (λ six. other (number c.tell.new.error answer c.tell.ensures.error ∙ six))) in
    rw same (Leaves_with_more c.args.element.now c.tell.new.element c.tell.new.error answer more c.tell.ensures)

pub returns-clause-fewer : goal.returns-clause-fewer
returns-clause-fewer c = λ more is six few.
    let answer = stripped c.strip_tlv-found.result in
    let told_is = c.tell.ensures.error in
    let short = told_ShortData answer (sym (number c.tell.new.error answer told_is) ∙ six) in
    c.strip_tlv-found.ensures.fewer more ((told answer).needed) is short (subst (λ (it : Asn1Error). length more < it.needed) told_is few)
