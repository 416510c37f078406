use Rattle.std.proofs.Common.{◌≡◌, length, ap, arith}
use Rattle.std.specs.Int.Digits.{digits_of}
use Rattle.std.proofs.lemmas.Int.Digits.{length-digits_of_step}
use Rattle.asn1_core.specs.Lemmas.Numbers.{length_number_octets, length_digits_of_128_le}
use Rattle.asn1_core.proofs.base128.length.Goals as goal

pub overflow_add-count : goal.overflow_add-count
overflow_add-count c = omega (arith, length_digits_of_128_le c.args.n (omega arith))

pub loop-rest-preserved : goal.loop-rest-preserved
loop-rest-preserved c = omega (arith, length-digits_of_step 128 c.loop-rest.rest (omega arith) (omega arith))

pub returns : goal.returns
returns c =
    let done : c.loop-rest.rest ≡ 0 = omega arith in
    let none = ap (λ k. length (digits_of 128 k)) done in
    record {
      encoding = omega (arith, none, length_number_octets c.args.n);
      some = omega (arith, none);
      most = omega (arith, none, length_digits_of_128_le c.args.n (omega arith));
    }
