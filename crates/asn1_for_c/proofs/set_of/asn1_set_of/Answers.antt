use Rattle.std.proofs.Common.{◌∙◌}
use Rattle.asn1_for_c.proofs.InOrder.{LeavesSetOf_ok, LeavesSetOf_too_small}
use Rattle.asn1_for_c.proofs.set_of.asn1_set_of.Goals as goal
use Rattle.asn1_for_c.proofs.set_of.asn1_set_of.Goals.{then-buffer-octets, else-buffer-octets}

pub returns-clause-exact : goal.returns-clause-exact
returns-clause-exact c =
    let octets = c.args.octets.now in
    let old = c.args.buffer.now in
    elim c.if-buffer-octets.branch [
      | then-buffer-octets w ↦ LeavesSetOf_too_small octets old c.in_default.ensures.0 c.if-buffer-octets.buffer c.if-buffer-octets.error c.in_default.ensures.1 w.if-buffer-octets.true w.buffer-is (w.error-is ∙ w.without_details-then-buffer-octets.ensures)
      | else-buffer-octets w ↦ LeavesSetOf_ok octets old w.order.new.buffer c.if-buffer-octets.buffer c.if-buffer-octets.error w.order.ensures w.if-buffer-octets.false w.buffer-is (w.error-is ∙ c.without_details.ensures)
    ]
