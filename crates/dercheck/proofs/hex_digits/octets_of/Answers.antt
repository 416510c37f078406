use Rattle.std.proofs.Common.{arith, ◌≡◌, ◌<◌, ◌+◌, ◌*◌, ◌&&◌, ℕ, Bool, true, false, List, length, slice_index, slice_set, Option, Some, None, is_some, unwrap_or, refl, sym, ◌∙◌}
use Rattle.std.proofs.lemmas.List.{length-set}
use Rattle.hex.specs.declared.error.FromHexError.TheVariants.{InvalidHexCharacter}
use Rattle.hex.specs.Hex.{hex_digit_value}
use Rattle.hex.proofs.HexLemmas.{decode_of-even}
use Rattle.hex.proofs.Pairs.{decode_step, decode_err, decode_done}
use Rattle.dercheck.proofs.hex_digits.octets_of.Invariants.{IsSoFar}
use Rattle.dercheck.proofs.hex_digits.octets_of.Goals as goal
use Rattle.dercheck.proofs.hex_digits.octets_of.Goals.{then-is_hex, else-is_hex}

-- two octets more were looked at
next_pair : (hex octets : List ℕ) (i : ℕ) (is_hex : Bool) (high low : Option ℕ)
    → 2 * i + 1 < length hex → i < length octets
    → hex_digit_value (slice_index hex (2 * i)) ≡ high → hex_digit_value (slice_index hex (2 * i + 1)) ≡ low
    → IsSoFar is_hex hex octets i
    → IsSoFar (is_hex && (is_some high && is_some low)) hex
    (slice_set octets i (unwrap_or high 0 * 16 + unwrap_or low 0)) (i + 1)
next_pair hex octets i true (Some h) (Some l) fits room eh el so_far =
    decode_step hex octets i (h * 16 + l) fits room (rw (eh, el) refl) so_far
next_pair hex octets i true (Some h) None fits room eh el so_far =
    let fault = InvalidHexCharacter (slice_index hex (2 * i + 1)) (2 * i + 1) in
    rw (decode_err hex octets i fault fits (rw (eh, el) refl) so_far) refl
next_pair hex octets i true None low fits room eh el so_far =
    let fault = InvalidHexCharacter (slice_index hex (2 * i)) (2 * i) in
    rw (decode_err hex octets i fault fits (rw eh refl) so_far) refl
next_pair hex octets i false high low fits room eh el so_far = so_far

pub octets-preserved : goal.octets-preserved
octets-preserved c =
    let hex : List ℕ = c.args.hex.now in
    let octets : List ℕ = c.octets.octets.items in
    let len = c.in_ok-octets.ensures.len in
    let pair = next_pair hex octets c.octets.i c.octets.is_hex c.digit-high.result c.digit-low.result
    (omega (arith, c.octets.invariant.count, len, c.len-i-end.ensures))
    (omega (arith, c.octets.invariant.count, len, c.len-i-end.ensures))
    (sym c.digit-high.ensures.value) (sym c.digit-low.ensures.value) c.octets.invariant.so_far in
    record {
      count = length-set octets c.octets.i _ ∙ c.octets.invariant.count;
      so_far = rw (c.is_some.ensures, c.is_some-in-octets.ensures, c.unwrap_or.ensures, c.unwrap_or-in-octets.ensures) pair;
    }

pub returns : goal.returns
returns c =
    let even = decode_of-even c.args.hex.now (omega arith) in
    let len = c.in_ok-octets.ensures.len in
    elim c.if-is_hex.branch [
      | then-is_hex w ↦
          rw w.result-is (even ∙ decode_done c.args.hex.now c.octets.octets.items c.octets.i
          (omega (arith, c.octets.invariant.count, len, c.len-i-end.ensures)) (omega (arith, len, c.len-i-end.ensures))
          (rw w.if-is_hex.true at c.octets.invariant.so_far))
      | else-is_hex w ↦ rw (w.result-is, even) (rw w.if-is_hex.false at c.octets.invariant.so_far)
    ]
