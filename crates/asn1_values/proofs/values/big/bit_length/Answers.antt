use Rattle.std.proofs.Common.{◌-◌, Bool, get_or, take, drop, length, sym, subst, arith}
use Rattle.asn1_values.specs.BigSteps.{IsMagnitude}
use Rattle.asn1_values.proofs.Bits.{log_lt_9, IsMagnitude_first_positive, bit_count_IsMagnitude, first_and_others, others_fewer}
use Rattle.asn1_values.proofs.values.big.bit_length.Goals as goal

pub ilog2-requires : goal.ilog2-requires
ilog2-requires c =
    let octets = c.args.octets.now in
    let rest = c.without_sign-rest.result.now in
    let b = c.is_negative-is_negative.result in
    let is = subst (λ (x : Bool). IsMagnitude octets rest x) (sym c.is_negative-is_negative.ensures) c.without_sign-rest.ensures.magnitude in
    let some = IsMagnitude_first_positive octets rest b is (get_or rest 0 0) (take (length rest - 1) (drop 1 rest)) (first_and_others rest c.in-len1-up.len_at_least) in
    omega (arith, some, c.leading-high.ensures.value)

pub overflow_add-result-in-len1-up : goal.overflow_add-result-in-len1-up
overflow_add-result-in-len1-up c =
    omega (arith, others_fewer c.without_sign-rest.result.now c.in-len1-up.len_at_least, c.without_sign-rest.ensures.few, c.requires.few, log_lt_9 c.leading-high.result c.ilog2.result c.ilog2.ensures.power_le c.leading-high.ensures.small)

pub returns-in-len1-up : goal.returns-in-len1-up
returns-in-len1-up c =
    let octets = c.args.octets.now in
    let rest = c.without_sign-rest.result.now in
    let b = c.is_negative-is_negative.result in
    let is = subst (λ (x : Bool). IsMagnitude octets rest x) (sym c.is_negative-is_negative.ensures) c.without_sign-rest.ensures.magnitude in
    bit_count_IsMagnitude octets rest b is (get_or rest 0 0) (take (length rest - 1) (drop 1 rest)) (first_and_others rest c.in-len1-up.len_at_least) c.leading-high.result c.ilog2.result c.leading-high.ensures.value c.ilog2.ensures.power_le c.ilog2.ensures.next_power_gt
