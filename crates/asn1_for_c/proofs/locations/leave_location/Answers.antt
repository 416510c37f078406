use Rattle.std.proofs.Common.{arith}
use Rattle.asn1_for_c.proofs.Places.{LeavesText_fits, LeavesText_too_small}
use Rattle.asn1_for_c.proofs.locations.leave_location.Goals as goal

pub returns-then-count-buffer : goal.returns-then-count-buffer
returns-then-count-buffer c = LeavesText_fits _ c.args.buffer.now _ _ _ _ (omega arith) c.push_places.ensures c.if-count-buffer.true c.push_places-then-count-buffer.ensures

pub returns-else-count-buffer : goal.returns-else-count-buffer
returns-else-count-buffer c = LeavesText_too_small _ c.args.buffer.now _ _ c.push_places.ensures c.if-count-buffer.false
