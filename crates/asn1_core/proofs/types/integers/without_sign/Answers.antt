use Rattle.std.proofs.Common.{arith}
use Rattle.std.proofs.lemmas.Int.{ints}
use Rattle.std.specs.Int.{w128}
use Rattle.asn1_core.proofs.Integers.{size_some, length_low, length_high}
use Rattle.asn1_core.proofs.types.integers.without_sign.Goals as goal

pub overflow_sub-result : goal.overflow_sub-result
overflow_sub-result c =
    omega (arith, size_some w128 c.args.number c.unsigned_abs-size.result c.ranges.number c.unsigned_abs-size.ensures.value (omega (arith, ints)))

pub returns-then-number-lt0 : goal.returns-then-number-lt0
returns-then-number-lt0 c =
    length_high w128 c.args.number c.unsigned_abs-size.result c.ranges.number c.unsigned_abs-size.ensures.value (omega (arith, ints))

pub returns : goal.returns
returns c =
    length_low w128 c.args.number c.unsigned_abs-size.result c.ranges.number c.unsigned_abs-size.ensures.value (omega (arith, ints))
