use Rattle.std.proofs.Common.{◌+◌, ◌<◌, ◌≤◌, inl, inr, arith, length, get_or}
use Rattle.asn1_values.proofs.WideTexts.{is_paired_plain_unit, is_paired_pair, is_paired_lone_unit, not_IsPair_high, not_IsPair_end, not_IsPair_low}
use Rattle.asn1_values.proofs.values.wide_texts.utf16_length.Goals as goal
use Rattle.asn1_values.proofs.values.wide_texts.utf16_length.Goals.{then-first-lt216-via-then-first-lt216, then-first-lt216-via-else-first-lt216+then-first-gt223}
use Rattle.asn1_values.proofs.values.wide_texts.utf16_length.Goals.{then-first-gt219-via-then-first-gt219, then-first-gt219-via-else-first-gt219+then-octets-at-lt4}
use Rattle.asn1_values.proofs.values.wide_texts.utf16_length.Goals.{then-second-lt220-via-then-second-lt220, then-second-lt220-via-else-second-lt220+then-second-gt223}

pub returns-then-first-lt216-clause-paired : goal.returns-then-first-lt216-clause-paired
returns-then-first-lt216-clause-paired c =
    let octets = c.args.octets.now in
    let at = c.args.at in
    let low : get_or octets (at + 1) 0 < 256 = omega (arith, c.type_inv.octets (at + 1)) in
    λ h. elim c.then-first-lt216.branch [
      | then-first-lt216-via-then-first-lt216 w ↦ is_paired_plain_unit octets at c.requires low (inl w.if-first-lt216.true)
      | then-first-lt216-via-else-first-lt216+then-first-gt223 w ↦ is_paired_plain_unit octets at c.requires low (inr w.if-first-gt223.true)
    ]

pub returns-then-first-gt219-clause-unpaired : goal.returns-then-first-gt219-clause-unpaired
returns-then-first-gt219-clause-unpaired c =
    let octets = c.args.octets.now in
    let at = c.args.at in
    let low : get_or octets (at + 1) 0 < 256 = omega (arith, c.type_inv.octets (at + 1)) in
    let is = is_paired_lone_unit octets at c.requires low (omega (arith, c.if-first-lt216.false)) (omega (arith, c.if-first-gt223.false)) in
    λ h. elim c.then-first-gt219.branch [
      | then-first-gt219-via-then-first-gt219 w ↦ is (not_IsPair_high octets at _ w.if-first-gt219.true)
      | then-first-gt219-via-else-first-gt219+then-octets-at-lt4 w ↦ is (not_IsPair_end octets at _ w.if-octets-at-lt4.true)
    ]

pub returns-then-second-lt220-clause-unpaired : goal.returns-then-second-lt220-clause-unpaired
returns-then-second-lt220-clause-unpaired c =
    let octets = c.args.octets.now in
    let at = c.args.at in
    let low : get_or octets (at + 1) 0 < 256 = omega (arith, c.type_inv.octets (at + 1)) in
    let next : get_or octets (at + 2 + 1) 0 < 256 = omega (arith, c.type_inv.octets (at + 2 + 1)) in
    let more : at + 4 ≤ length octets = omega (arith, c.requires, c.if-octets-at-lt4.false) in
    let is = is_paired_lone_unit octets at c.requires low (omega (arith, c.if-first-lt216.false)) (omega (arith, c.if-first-gt223.false)) in
    λ h. elim c.then-second-lt220.branch [
      | then-second-lt220-via-then-second-lt220 w ↦ is (not_IsPair_low octets at _ more next (inl w.if-second-lt220.true))
      | then-second-lt220-via-else-second-lt220+then-second-gt223 w ↦ is (not_IsPair_low octets at _ more next (inr w.if-second-gt223.true))
    ]

pub returns-clause-paired : goal.returns-clause-paired
returns-clause-paired c =
    let octets = c.args.octets.now in
    let at = c.args.at in
    let low : get_or octets (at + 1) 0 < 256 = omega (arith, c.type_inv.octets (at + 1)) in
    let next : get_or octets (at + 2 + 1) 0 < 256 = omega (arith, c.type_inv.octets (at + 2 + 1)) in
    let more : at + 4 ≤ length octets = omega (arith, c.requires, c.if-octets-at-lt4.false) in
    λ h. is_paired_pair octets at more low next (omega (arith, c.if-first-lt216.false)) (omega (arith, c.if-first-gt219.false)) (omega (arith, c.if-second-lt220.false)) (omega (arith, c.if-second-gt223.false))
