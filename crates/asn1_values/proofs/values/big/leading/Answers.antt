use Rattle.std.proofs.Common.{arith}
use Rattle.asn1_core.specs.Lemmas.Texts.{IsOctets_from_reads}
use Rattle.asn1_values.proofs.Bits.{magnitude_first_nonnegative, magnitude_first_zeros_after, magnitude_first_negative, number_all_zero, number_is_positive}
use Rattle.asn1_values.proofs.values.big.leading.Goals as goal

pub returns-then-not-is_negative-clause-value : goal.returns-then-not-is_negative-clause-value
returns-then-not-is_negative-clause-value c =
    let others = c.args.others.now in
    rw (c.from-first.ensures, c.if-not-is_negative.true) (magnitude_first_nonnegative c.args.first others (IsOctets_from_reads others (λ k. omega (arith, c.type_inv.others k))))

pub returns-then-is_zero-clause-value : goal.returns-then-is_zero-clause-value
returns-then-is_zero-clause-value c =
    let others = c.args.others.now in
    rw (c.from-first.ensures, c.if-not-is_negative.false) (magnitude_first_zeros_after c.args.first others (omega (arith, c.ranges.first)) (number_all_zero others (c.is_zero.ensures.0 c.if-is_zero.true)))

pub returns-else-is_zero-clause-value : goal.returns-else-is_zero-clause-value
returns-else-is_zero-clause-value c =
    let others = c.args.others.now in
    rw (c.from-first.ensures, c.if-not-is_negative.false) (magnitude_first_negative c.args.first others (omega (arith, c.ranges.first)) (IsOctets_from_reads others (λ k. omega (arith, c.type_inv.others k))) (number_is_positive c.is_zero.result others c.is_zero.ensures c.if-is_zero.false))
