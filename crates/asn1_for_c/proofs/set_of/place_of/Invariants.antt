use Rattle.std.proofs.Common.{length, ℕ, List}
use Rattle.asn1_for_c.proofs.InOrder.{IsPassed}
use Rattle.asn1_for_c.proofs.set_of.place_of.Given as goal

abbrev pub invariant-loop-element : goal.invariant-loop-element
invariant-loop-element l = (front : List ℕ) × IsPassed l.listed l.text front l.rest

abbrev pub decreases-loop-element : goal.decreases-loop-element
decreases-loop-element l = length l.rest
