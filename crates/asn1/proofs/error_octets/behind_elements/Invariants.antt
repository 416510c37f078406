use Rattle.std.proofs.Common.{◌≡◌, ◌-◌, length}
use Rattle.asn1.specs.ErrorOctets.{behind_elements}
use Rattle.asn1.proofs.error_octets.behind_elements.Given as goal

abbrev pub invariant-elements : goal.invariant-elements
invariant-elements l = behind_elements (length l.octets - l._turn) l.rest ≡ behind_elements (length l.octets) l.octets
