use Rattle.std.proofs.Common.{◌≡◌, ◌+◌, ◌%◌, get_or, sym, ⊎_elim, arith}
use Rattle.std.proofs.lemmas.List.{take_rest}
use Rattle.asn1_core.specs.Lemmas.Numbers.{leading_number_big_at, leading_number_zero_at, leading_number_last_at, leading_number_nineteen_at, leading_number_end_at, IsOpen_take_step, digits_number_take_step, not_BeginsWithZero_take_step, next_value}
use Rattle.asn1_core.proofs.base128.read_number.Goals as goal
use Rattle.asn1_core.proofs.base128.read_number.Goals.{then-number-via-then-number, then-number-via-else-number+then-octet}

pub returns-then-i-octets : goal.returns-then-i-octets
returns-then-i-octets c =
    let inv = c.loop-i.invariant in
    leading_number_end_at c.args.octets.now c.loop-i.i (omega arith) inv.open_so_far inv.shortest c.loop-i-test.true

pub returns-then-number : goal.returns-then-number
returns-then-number c =
    let octets = c.args.octets.now in
    let i = c.loop-i.i in
    let inv = c.loop-i.invariant in
    elim c.then-number.branch [
      | then-number-via-then-number w ↦ leading_number_big_at octets i c.if-i-octets.false inv.open_so_far c.loop-i-test.true (omega (arith, c.type_inv.octets i)) (omega arith)
      | then-number-via-else-number+then-octet w ↦ leading_number_zero_at octets i w.if-octet.true.0 w.if-octet.true.1
    ]

pub returns-then-octet-lt128 : goal.returns-then-octet-lt128
returns-then-octet-lt128 c =
    let octets = c.args.octets.now in
    let i = c.loop-i.i in
    let inv = c.loop-i.invariant in
    let value = next_value c.loop-i.number (get_or octets i 0) (omega arith) in
    let octet : get_or octets i 0 % 128 ≡ get_or octets i 0 = omega arith in
    rw (c.from.ensures, value, octet, inv.value, take_rest octets (i + 1)) (leading_number_last_at octets i c.if-i-octets.false inv.open_so_far inv.shortest c.if-octet-lt128.true (omega arith))

pub loop-i-preserved : goal.loop-i-preserved
loop-i-preserved c =
    let octets = c.args.octets.now in
    let i = c.loop-i.i in
    let inv = c.loop-i.invariant in
    let value = next_value c.loop-i.number (get_or octets i 0) (omega arith) in
    record {
      within = omega arith;
      open_so_far = IsOpen_take_step octets i c.if-i-octets.false inv.open_so_far c.if-octet-lt128.false (omega (arith, c.type_inv.octets i));
      shortest = not_BeginsWithZero_take_step octets i c.if-i-octets.false inv.shortest (λ e z. ⊎_elim (λ (w : (i ≡ 0) × (get_or octets i 0 ≡ 128 → ⊥)). w.1 z) (λ (w : i ≡ 0 → ⊥). w e) c.if-octet.either);
      value = rw (c.from.ensures, value, inv.value) (sym (digits_number_take_step octets i c.if-i-octets.false));
    }

pub returns : goal.returns
returns c =
    let inv = c.loop-i.invariant in
    leading_number_nineteen_at c.args.octets.now c.loop-i.i inv.within inv.open_so_far c.loop-i-test.false
