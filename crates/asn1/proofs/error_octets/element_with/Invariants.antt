use Rattle.std.proofs.Common.{◌≡◌, ◌≤◌, ◌-◌, length}
use Rattle.asn1.specs.ErrorOctets.{element_with}
use Rattle.asn1.proofs.error_octets.element_with.Given as goal

-- the elements that were passed don't have the octet, and end within the octets
abbrev pub invariant-elements : goal.invariant-elements
invariant-elements l = (element_with (length l.octets - l._turn) (length l.octets) l.octet l.start l.rest ≡ element_with (length l.octets) (length l.octets) l.octet 0 l.octets) × (l.start ≤ length l.octets)
