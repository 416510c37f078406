use Rattle.std.proofs.Common.{◌∙◌, ◌++◌, ap, sym, refl, Err}
use Rattle.std.specs.Cmp.Lexicographic.{slice_cmp}
use Rattle.std.specs.Ordering.{is_lt, nat_cmp}
use Rattle.asn1.specs.Element.{element_encoding}
use Rattle.asn1.specs.Tlv.{element_of}
use Rattle.asn1_for_c.proofs.InOrder.{length_remaining_lt, IsPassed_push, concat_place_encoding_here, concat_place_encoding_last, append_take_drop}
use Rattle.asn1_for_c.proofs.set_of.place_of.Goals as goal
use Rattle.asn1_for_c.proofs.set_of.place_of.Goals.{in-Ok+then-not-is_lt, in_default}

pub loop-element-smaller : goal.loop-element-smaller
loop-element-smaller c = length_remaining_lt _ _ _ c.in-Ok.ensures.grammar

pub loop-element-preserved : goal.loop-element-preserved
loop-element-preserved c =
    let front = c.loop-element.invariant.0 in
    let e = element_of c.in-Ok.element in
    let less = ap is_lt (ap (λ t. slice_cmp nat_cmp t c.args.text.now) (sym c.full_data.ensures.whole) ∙ sym c.cmp.ensures) ∙ sym c.is_lt.ensures ∙ c.if-not-is_lt.false in
    (front ++ element_encoding e, IsPassed_push c.args.listed.now c.args.text.now front c.loop-element.rest.now c.in-Ok.after.now e c.loop-element.invariant.1 c.in-Ok.ensures.grammar less)

pub returns-clause-place : goal.returns-clause-place
returns-clause-place c =
    let listed = c.args.listed.now in
    let octets = c.args.text.now in
    let rest = c.loop-element.rest.now in
    let front = c.loop-element.invariant.0 in
    let p = c.loop-element.invariant.1 in
    let counted = append_take_drop listed octets front rest _ p.whole refl in
    elim c.match-strip_tlv.branch [
      | in-Ok+then-not-is_lt w ↦
          let less = ap is_lt (ap (λ t. slice_cmp nat_cmp t octets) (sym w.full_data.ensures.whole) ∙ sym w.cmp.ensures) ∙ sym w.is_lt.ensures ∙ w.if-not-is_lt.true in
          λ encodings are. concat_place_encoding_here listed octets front rest w.in-Ok.after.now (element_of w.in-Ok.element) p w.in-Ok.ensures.grammar less encodings are ∙ counted
      | in_default w ↦ λ encodings are. concat_place_encoding_last listed octets front rest (Err w.in_default.field-0.kind) w.in_default.field-0.kind p w.in_default.ensures.only refl encodings are ∙ counted
    ]
