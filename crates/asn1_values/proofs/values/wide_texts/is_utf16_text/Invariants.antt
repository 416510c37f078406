use Rattle.std.proofs.Common.{◌≡◌, ◌-◌, ◌%◌, ◌≤◌, length, drop}
use Rattle.asn1_values.specs.Texts.{is_paired}
use Rattle.asn1_values.proofs.values.wide_texts.is_utf16_text.Given as goal

abbrev pub invariant-loop-at : goal.invariant-loop-at
invariant-loop-at l = (l.at ≤ length l.octets) × ((length l.octets - l.at) % 2 ≡ 0) × (is_paired (drop l.at l.octets) ≡ is_paired l.octets)

abbrev pub decreases-loop-at : goal.decreases-loop-at
decreases-loop-at l = length l.octets - l.at
