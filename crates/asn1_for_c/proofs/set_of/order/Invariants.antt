use Rattle.std.proofs.Common.{length}
use Rattle.asn1_for_c.proofs.InOrder.{IsPartlyDone}
use Rattle.asn1_for_c.proofs.set_of.order.Given as goal

abbrev pub invariant-loop-element : goal.invariant-loop-element
invariant-loop-element l = IsPartlyDone l.octets l.rest l.buffer l.count

abbrev pub decreases-loop-element : goal.decreases-loop-element
decreases-loop-element l = length l.rest
