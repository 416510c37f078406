use Rattle.std.proofs.Common.{◌<◌, get_or, sym, arith}
use Rattle.asn1_core.specs.Lemmas.Lengths.{number_take_step, next_number, next_below}
use Rattle.asn1_core.proofs.parser.number_in.Goals as goal

pub loop-octet-preserved : goal.loop-octet-preserved
loop-octet-preserved c =
    let octets = c.args.octets.now in
    let i = c.loop-octet.octet-index in
    let inv = c.loop-octet.invariant in
    let octet : get_or octets i 0 < 256 = omega (arith, c.type_inv.octets i) in
    let value = next_number c.loop-octet.n (get_or octets i 0) i inv.below (omega arith) octet in
    record {
      value = rw (c.from.ensures, value, inv.value) (sym (number_take_step octets i c.loop-octet-test.true));
      below = rw (c.from.ensures, value) (next_below c.loop-octet.n (get_or octets i 0) i inv.below octet);
    }
