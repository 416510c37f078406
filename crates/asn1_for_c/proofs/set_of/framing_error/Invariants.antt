use Rattle.std.proofs.Common.{length, Option}
use Rattle.asn1.specs.declared.ParseErrorKind.{ParseErrorKind}
use Rattle.asn1_for_c.proofs.InOrder.{IsFramed}
use Rattle.asn1_for_c.proofs.set_of.framing_error.Given as goal

abbrev pub invariant-loop-rest : goal.invariant-loop-rest
invariant-loop-rest l = (found : Option ParseErrorKind) → IsFramed l.rest found → IsFramed l.octets found

abbrev pub decreases-loop-rest : goal.decreases-loop-rest
decreases-loop-rest l = length l.rest
