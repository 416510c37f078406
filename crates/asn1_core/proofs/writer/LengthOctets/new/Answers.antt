use Rattle.std.proofs.Common.{◌≡◌, ◌-◌, ◌++◌, length, drop, sym, ap, ◌∙◌, refl, arith}
use Rattle.std.specs.Int.Digits.{digits_of}
use Rattle.std.proofs.lemmas.Int.Digits.{length-digits_of_step}
use Rattle.std.proofs.lemmas.List.{length-set}
use Rattle.asn1_core.specs.Lemmas.Lengths.{length_octets_low, length_digits_of_le_8, write_length_step, write_length_end, bit_and_255}
use Rattle.asn1_core.proofs.writer.LengthOctets.new.Goals as goal

pub overflow_sub-start : goal.overflow_sub-start
overflow_sub-start c = omega (arith, length_digits_of_le_8 c.args.n (omega arith), length-digits_of_step 256 c.loop-rest.rest (omega arith) c.loop-rest-test.true)

pub loop-rest-preserved : goal.loop-rest-preserved
loop-rest-preserved c =
    let inv = c.loop-rest.invariant in
    let rest = c.loop-rest.rest in
    let step = length-digits_of_step 256 rest (omega arith) c.loop-rest-test.true in
    let few = length_digits_of_le_8 c.args.n (omega arith) in
    record {
      size = length-set c.loop-rest.octets (c.loop-rest.start - 1) _ ∙ inv.size;
      within = omega arith;
      place = omega (arith, step, few);
      whole = rw (bit_and_255 rest) (write_length_step rest c.loop-rest.start c.loop-rest.octets c.loop-rest-test.true (omega (arith, step, few)) (omega (arith, step, few)) ∙ inv.whole);
    }

pub overflow_sub-start-2 : goal.overflow_sub-start-2
overflow_sub-start-2 c =
    let done : c.loop-rest.rest ≡ 0 = omega arith in
    let none = ap (λ k. length (digits_of 256 k)) done in
    omega (arith, length_digits_of_le_8 c.args.n (omega arith), none)

pub returns-then-n-lt128-clause-encoding : goal.returns-then-n-lt128-clause-encoding
returns-then-n-lt128-clause-encoding c = rw (length_octets_low c.args.n c.if-n-lt128.true) refl

pub returns-clause-encoding : goal.returns-clause-encoding
returns-clause-encoding c =
    let inv = c.loop-rest.invariant in
    let n = c.args.n in
    let done : c.loop-rest.rest ≡ 0 = omega arith in
    let none = ap (λ k. length (digits_of 256 k)) done in
    let few = length_digits_of_le_8 n (omega arith) in
    let whole : drop c.loop-rest.start c.loop-rest.octets ≡ digits_of 256 n = ap (λ k. digits_of 256 k ++ drop c.loop-rest.start c.loop-rest.octets) (sym done) ∙ inv.whole in
    write_length_end n c.loop-rest.start c.loop-rest.octets c.if-n-lt128.false (omega arith) (omega (arith, few, none)) (omega arith) (omega (arith, none)) whole
