use Rattle.std.specs.Str.{all_scalars}
use Rattle.std.proofs.Common.{◌≡◌, ◌-◌, ◌%◌, ◌≤◌, length, drop}
use Rattle.asn1_values.specs.Texts.{fours}
use Rattle.asn1_values.proofs.values.wide_texts.is_utf32_text.Given as goal

abbrev pub invariant-loop-at : goal.invariant-loop-at
invariant-loop-at l = (l.at ≤ length l.octets) × ((length l.octets - l.at) % 4 ≡ 0) × (all_scalars (fours (drop l.at l.octets)) ≡ all_scalars (fours l.octets))

abbrev pub decreases-loop-at : goal.decreases-loop-at
decreases-loop-at l = length l.octets - l.at
