use Rattle.std.proofs.Common.{◌≡◌, ◌<◌, List, [], ℕ, length, Option, Result, Ok, Some, rules, sym, ap, ◌∙◌, arith}
use Rattle.std.proofs.lemmas.Bool.{eqb-false}
use Rattle.asn1_core.specs.declared.tag.Tag.{Tag}
use Rattle.asn1_core.specs.Element.{Element, element_encoding, IsReadable, ◌>>=◌}
use Rattle.asn1_core.specs.ReadError.{ReadError}
use Rattle.asn1_core.specs.Reading.{framed_element}
use Rattle.asn1_core.specs.Tag.{tag_less}
use Rattle.asn1_core.specs.Tlv.{element_of}
use Rattle.asn1_core.specs.Lemmas.Texts.{IsOctets_from_reads}
use Rattle.asn1_core.proofs.TagOrder.{tag_at_start_element_encoding}
use Rattle.asn1.specs.Sets.{set_item, element_behind, with_text}
use Rattle.asn1.specs.Lemmas.ListItems.{Returns_refused}
use Rattle.asn1.specs.Lemmas.SetItems.{framed_element_consumes, set_item_is, set_item_element_behind, checked_step, tag_at_start_nil, IsErrorOf_element_behind}
use Rattle.asn1.proofs.lists.sets.check_elements.Goals as goal

pub elements-init : goal.elements-init
elements-init c = record {
  before = [];
  tag = tag_at_start_nil;
  same = search rules;
  octets = rw c.new-parser.ensures (IsOctets_from_reads c.args.content.now (λ i. omega (arith, c.shared_slice_known-1.given i)));
  room = search rules;
}

pub elements-smaller : goal.elements-smaller
elements-smaller c =
    let i = c.elements.index in
    let rest = c.elements.parser in
    let inv = c.elements.invariant in
    let e = element_of c.in_ok-tlv.tlv in
    let after = c.read_behind.new.parser in
    let read : element_behind c.elements.last i rest ≡ Ok (e, after) = c.in_ok-tlv.ensures.answers in
    let found : set_item tag_less framed_element inv.before i rest ≡ Ok (e, element_encoding e, after) =
    set_item_element_behind inv.before i rest inv.octets
    ∙ ap (λ (last : Option Tag). element_behind last i rest >>= with_text) inv.tag
    ∙ ap (λ (r : Result (Element × List ℕ) ReadError). r >>= with_text) read in
    (set_item_is tag_less framed_element element_encoding IsReadable framed_element_consumes inv.before i rest (e, element_encoding e, after) inv.octets found).shorter

pub elements-preserved : goal.elements-preserved
elements-preserved c =
    let i = c.elements.index in
    let rest = c.elements.parser in
    let inv = c.elements.invariant in
    let e = element_of c.in_ok-tlv.tlv in
    let after = c.read_behind.new.parser in
    let read : element_behind c.elements.last i rest ≡ Ok (e, after) = c.in_ok-tlv.ensures.answers in
    let found : set_item tag_less framed_element inv.before i rest ≡ Ok (e, element_encoding e, after) =
    set_item_element_behind inv.before i rest inv.octets
    ∙ ap (λ (last : Option Tag). element_behind last i rest >>= with_text) inv.tag
    ∙ ap (λ (r : Result (Element × List ℕ) ReadError). r >>= with_text) read in
    let some : rest ≡ [] → ⊥ = λ z. eqb-false _ _ (sym c.is_empty.ensures ∙ c.elements-test.true) (ap length z) in
    let is = set_item_is tag_less framed_element element_encoding IsReadable framed_element_consumes inv.before i rest (e, element_encoding e, after) inv.octets found in
    let shorter : length after < length rest = is.shorter in
    record {
      before = element_encoding e;
      tag = tag_at_start_element_encoding e is.good.tag ∙ ap Some (sym c.tag.ensures);
      same = sym (checked_step tag_less framed_element element_encoding IsReadable framed_element_consumes inv.before i rest (e, element_encoding e, after) some inv.octets found) ∙ inv.same;
      octets = is.octets;
      room = omega (arith, inv.room);
    }

pub returns-in_err-tlv : goal.returns-in_err-tlv
returns-in_err-tlv c =
    let rest = c.elements.parser in
    let inv = c.elements.invariant in
    let some : rest ≡ [] → ⊥ = λ z. eqb-false _ _ (sym c.is_empty.ensures ∙ c.elements-test.true) (ap length z) in
    Returns_refused _ (λ places. ⊥) _ _ _ c.from_residual.ensures.1 (IsErrorOf_element_behind inv.before c.elements.last c.elements.index rest _ _ some inv.octets inv.tag inv.same c.in_err-tlv.ensures.answers)
