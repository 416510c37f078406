use Rattle.std.proofs.Common.{◌≡◌, ◌-◌, ◌≤◌, ◌==◌, not, length, drop, reverse}
use Rattle.std.specs.List.{prefix_len}
use Rattle.asn1_for_c.specs.Locations.{colon}
use Rattle.asn1_for_c.proofs.locations.after_colons.Given as goal

-- No octet from `start` on is a colon.
abbrev pub invariant-loop-start : goal.invariant-loop-start
invariant-loop-start l = (l.start ≤ length l.name) × (prefix_len (λ octet. not (octet == colon)) (reverse (drop l.start l.name)) ≡ length l.name - l.start)

abbrev pub decreases-loop-start : goal.decreases-loop-start
decreases-loop-start l = l.start
