use Rattle.std.proofs.Common.{◌≤◌, ℕ, length, ◌∙◌, arith}
use Rattle.asn1_core.specs.Lemmas.Numbers.{write_number_start, write_number_step, length_number_octets, bit_and_127, bit_or_128, digits_some}
use Rattle.std.proofs.lemmas.Int.Digits.{length-digits_of_step}
use Rattle.std.proofs.lemmas.List.{length-set}
use Rattle.asn1_core.proofs.base128.write.Goals as goal

pub loop-i-init : goal.loop-i-init
loop-i-init c =
    let count = c.length-count.ensures in
    record {
      left = omega (arith, count.encoding, length_number_octets c.args.n);
      whole = rw (bit_and_127 c.args.n) (write_number_start c.args.n c.length-count.result c.args.octets.now count.encoding (omega arith));
    }

pub loop-i-preserved : goal.loop-i-preserved
loop-i-preserved c =
    let inv = c.loop-i.invariant in
    let within : c.loop-i.i ≤ length c.loop-i.octets = omega (arith, length-set {A = ℕ}) in
    record {
      left = omega (arith, length-digits_of_step 128 c.loop-i.rest (omega arith) (digits_some c.loop-i.rest (omega arith)));
      whole = rw (bit_or_128 c.loop-i.rest) (write_number_step c.loop-i.rest c.loop-i.i c.loop-i.octets inv.left c.loop-i-test.true within ∙ inv.whole);
    }
