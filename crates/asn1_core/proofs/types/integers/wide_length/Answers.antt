use Rattle.std.proofs.Common.{◌∙◌, refl, arith}
use Rattle.std.specs.Prelude.{pos}
use Rattle.std.proofs.lemmas.Nat.{leading_le}
use Rattle.std.specs.Int.{w128}
use Rattle.asn1_core.proofs.Integers.{length_counted, length_passed}
use Rattle.asn1_core.proofs.types.integers.wide_length.Goals as goal

pub overflow_sub-bits : goal.overflow_sub-bits
overflow_sub-bits c = omega (arith, leading_le 128 c.without_sign-size.result)

pub returns : goal.returns
returns c =
    let size = c.without_sign-size.result in
    length_passed w128 c.args.number _ c.ranges.number (length_counted 128 (pos size) _ size refl (omega (arith, c.without_sign-size.type_inv)) refl ∙ c.without_sign-size.ensures)
