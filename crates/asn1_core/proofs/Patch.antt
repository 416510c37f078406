-- The octets after length octets replaced one octet.
use Rattle.std.proofs.Common.{◌≡◌, ◌+◌, ◌-◌, ◌<◌, ◌≤◌, ◌++◌, ◌^◌, ◌∷◌, zero, suc, length, take, drop, replicate, bit_or, ℕ, List, refl, sym, arith, length-drop}
use Rattle.std.specs.Int.Digits.{digits_of}
use Rattle.std.proofs.lemmas.Grind.{common_steps, numeral_or}
use Rattle.std.proofs.lemmas.List.Edits.{take-paste, length-paste}
use Rattle.std.specs.List.{copy_within}
use Rattle.asn1_core.specs.Length.{length_octets}
use Rattle.asn1_core.specs.Lemmas.Lengths.{length_octets_high, length_digits_of_le_8}

pub digits_of_positive : (n : ℕ) → 0 < length (digits_of 256 n) → 0 < n
digits_of_positive zero h = absurd (omega (arith, h))
digits_of_positive (suc n) h = omega arith

-- the first octet of a long length
pub length_octets_bit_or : (n : ℕ) → 128 ≤ n → n < 2 ^ 64 → bit_or 128 (length (digits_of 256 n)) ∷ digits_of 256 n ≡ length_octets n
length_octets_bit_or n l small =
    let few : length (digits_of 256 n) < 128 = omega (arith, length_digits_of_le_8 n small) in
    rw (numeral_or 127 (length (digits_of 256 n)) refl few) (sym (length_octets_high n l))

module _ (xs : List ℕ) (start more : ℕ) (low : 0 < start) (within : start ≤ length xs) where
  pub copy_within_moved : (big moved : List ℕ) → big ≡ xs ++ replicate more 0 → moved ≡ copy_within big start (length xs) (start + more) → moved ≡ take (start + more) big ++ drop start xs
  copy_within_moved big moved e f =
      let l : length big ≡ length xs + more = grind (arith, common_steps) in
      let d : drop start big ≡ drop start xs ++ replicate more 0 = grind (arith, common_steps) in
      let k : take (length xs - start) (drop start big) ≡ drop start xs = grind (arith, common_steps) in
      let ld : length (drop start big) ≡ length big - start = length-drop start big in
      let n = length xs - start in
      let p : take (start + more + n) moved ≡ take (start + more) big ++ take n (drop start big) = rw f (take-paste big (start + more) (drop start big) n (omega arith) (omega arith)) in
      let lm : length moved ≡ length big = rw f (length-paste big (start + more) (drop start big) n (omega arith) (omega arith)) in
      let w : start + more + n ≡ length moved = omega arith in
      grind (arith, common_steps)

  pub drop_moved : (big moved : List ℕ) → big ≡ xs ++ replicate more 0 → moved ≡ take (start + more) big ++ drop start xs → drop (start + more) moved ≡ drop start xs
  drop_moved big moved e f =
      let l : length big ≡ length xs + more = grind (arith, common_steps) in
      grind (arith, common_steps)

  pub take_moved : (big moved : List ℕ) → big ≡ xs ++ replicate more 0 → moved ≡ take (start + more) big ++ drop start xs → take (start - 1) moved ≡ take (start - 1) xs
  take_moved big moved e f =
      let l : length big ≡ length xs + more = grind (arith, common_steps) in
      let a : take (start - 1) moved ≡ take (start - 1) (take (start + more) big) = grind (arith, common_steps) in
      let b : take (start - 1) (take (start + more) big) ≡ take (start - 1) big = grind (arith, common_steps) in
      grind (arith, common_steps)
