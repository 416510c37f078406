use Rattle.std.proofs.Common.{Err, refl, sym, ◌∙◌}
use Rattle.asn1.specs.Tlv.{element_of}
use Rattle.asn1_for_c.proofs.InOrder.{length_remaining_lt, IsPartlyDone_nil, IsPartlyDone_push, IsPartlyDone_IsSetOf}
use Rattle.asn1_for_c.proofs.set_of.order.Goals as goal

pub loop-element-init : goal.loop-element-init
loop-element-init c = IsPartlyDone_nil c.args.octets.now c.args.buffer.now c.requires.elements.0 c.requires.elements.1

pub loop-element-smaller : goal.loop-element-smaller
loop-element-smaller c = length_remaining_lt _ _ _ c.in-Ok.ensures.grammar

pub loop-element-preserved : goal.loop-element-preserved
loop-element-preserved c =
    IsPartlyDone_push c.args.octets.now c.loop-element.rest.now c.in-Ok.after.now c.loop-element.buffer c.insert.new.listed c.full_data-text.result.now c.loop-element.count (element_of c.in-Ok.element)
    c.loop-element.invariant c.in-Ok.ensures.grammar c.full_data-text.ensures.whole (c.requires.room ∙ sym c.loop-element.auto.buffer) c.insert.auto.listed c.insert.ensures

pub returns : goal.returns
returns c =
    IsPartlyDone_IsSetOf c.args.octets.now c.loop-element.rest.now c.loop-element.buffer c.loop-element.count (Err c.in_default.field-0.kind) c.in_default.field-0.kind c.loop-element.invariant (c.requires.room ∙ sym c.loop-element.auto.buffer) c.in_default.ensures.only refl
