-- Lengths: what is at the start of the octets.
use Rattle.std.proofs.Common.{◌≡◌, ℕ, zero, suc, ◌+◌, ◌-◌, ◌*◌, ◌/◌, ◌%◌, ◌^◌, ◌<◌, ◌≤◌, ◌⊎◌, true, if◌then◌else◌, eqb, List, [], ◌∷◌, ◌++◌, length, get_or, take, drop, set, bit_and, bit_or, Result, Ok, Err, refl, sym, ap, subst, ◌∙◌, inl, inr, ⊎_elim, append_assoc, arith, lit<, lit≤}
use Rattle.std.specs.Prelude.{OnOk, is_ok}
use Rattle.std.proofs.lemmas.Bool.{le-leb, lt-leb, le-ltb, lt-ltb, eq-eqb, ne_eqb, cases_lt, cases_eq, or_right}
use Rattle.std.proofs.lemmas.Nat.{mul-add-lt, or_shifted, and_mask}
use Rattle.std.proofs.lemmas.List.{length_push, drop-set, length-append, length-take-le, take-append-drop, nil_from_length, take_more, take_at, drop_at, get_or_append_left}
use Rattle.std.proofs.lemmas.Grind.{pow_more, or_after_shift, numeral_or}
use Rattle.std.proofs.Math.Nat.{pow-suc, pow-le-pow_right}
use Rattle.asn1_core.specs.declared.parser.ParseErrorKind.{ParseErrorKind}
use Rattle.asn1_core.specs.declared.parser.ParseErrorKind.TheVariants.{InvalidLength, ShortData}
use Rattle.asn1_core.specs.Base256.{IsOctets, number}
use Rattle.asn1_core.specs.Length.{length_octets, long_length, leading_length, IsShortest, AreLengthOctets, IsLeadingLength}
use Rattle.std.specs.Int.Digits.{digits_of}
use Rattle.std.proofs.lemmas.Int.Digits.{number_digits_of, all_below_base_digits_of, first_digits_of, digits_of_step, length-digits_of-le}
use Rattle.asn1_core.specs.Lemmas.Texts.{IsOctets_prefix}
use Rattle.asn1_core.specs.Lemmas.Digits.{digits_of_number_from_digits, number_from_digits_256, Leads}

pub number_is_lt : (t : List ℕ) → IsOctets t → number t < 256 ^ length t
number_is_lt [] is = lit< tt
number_is_lt (x ∷ xs) is = rw (pow-suc 256 (length xs)) (mul-add-lt x (256 ^ length xs) (number xs) 256 is.0 (number_is_lt xs is.1))

pub number_of_push : (t : List ℕ) (x : ℕ) → number (t ++ x ∷ []) ≡ number t * 256 + x
number_of_push [] x = omega arith
number_of_push (y ∷ ys) x = rw (length_push ys x, pow_more 256 (length ys), number_of_push ys x) (omega arith)

pub number_take_step : (t : List ℕ) (i : ℕ) → i < length t → number (take (i + 1) t) ≡ number (take i t) * 256 + get_or t i 0
number_take_step t i l = rw (take_more t i 0 l) (number_of_push (take i t) (get_or t i 0))

-- a shift by eight and an octet, if there is room
pub next_number : (n x i : ℕ) → n < 256 ^ i → i < 8 → x < 256 → bit_or (n * 256 % 2 ^ 64) x ≡ n * 256 + x
next_number n x i below few octet =
    let most : 256 ^ i ≤ 256 ^ 7 = pow-le-pow_right {n = 256} (lit< tt) {i = i} {j = 7} (omega arith) in
    or_after_shift n 256 (2 ^ 64) x refl octet (omega arith)

pub next_below : (n x i : ℕ) → n < 256 ^ i → x < 256 → n * 256 + x < 256 ^ (i + 1)
next_below n x i below octet = rw (pow_more 256 i) (omega arith)

-- the parts of a first octet, put together
pub bit_or_first_octet : (class_bits bit low : ℕ) → class_bits < 4 → (bit ≡ 32) ⊎ (bit ≡ 0) → low < 32 → bit_or (bit_or (class_bits * 64 % 256) bit) low ≡ class_bits * 64 + bit + low
bit_or_first_octet a bit low k (inl e) small =
    let whole : a * 64 % 256 ≡ a * 64 = omega arith in
    let first : bit_or (a * 64) 32 ≡ a * 64 + 32 = or_shifted a 6 32 (lit< tt) in
    let half : a * 64 + 32 ≡ (a * 2 + 1) * 32 = omega arith in
    rw (e, whole, first, half) (or_shifted (a * 2 + 1) 5 low small)
bit_or_first_octet a bit low k (inr e) small =
    let whole : a * 64 % 256 ≡ a * 64 = omega arith in
    let first : bit_or (a * 64) 0 ≡ a * 64 + 0 = or_shifted a 6 0 (lit< tt) in
    let half : a * 64 + 0 ≡ (a * 2) * 32 = omega arith in
    rw (e, whole, first, half) (or_shifted (a * 2) 5 low small)

-- ---- what is at the start
pub leading_length_empty : (octets : List ℕ) → length octets ≡ 0 → leading_length octets ≡ Err (ShortData 1)
unfolding leading_length
leading_length_empty [] e = refl
leading_length_empty (x ∷ xs) e = absurd (omega arith)

pub leading_length_low : (octets : List ℕ) → 0 < length octets → get_or octets 0 0 < 128 → leading_length octets ≡ Ok (get_or octets 0 0, drop 1 octets)
unfolding leading_length
leading_length_low [] some low = absurd (omega arith)
leading_length_low (x ∷ xs) some low = rw (lt-ltb x 128 low) refl

pub leading_length_bad_first : (octets : List ℕ) → 0 < length octets → (get_or octets 0 0 ≡ 128) ⊎ (133 ≤ get_or octets 0 0) → leading_length octets ≡ Err InvalidLength
unfolding leading_length
leading_length_bad_first [] some bad = absurd (omega arith)
leading_length_bad_first (x ∷ xs) some (inl e) = rw (le-ltb x 128 (omega arith), eq-eqb x 128 e) refl
leading_length_bad_first (x ∷ xs) some (inr h) = rw (le-ltb x 128 (omega arith), le-leb 133 x h, or_right (eqb x 128) true refl) refl

pub leading_length_long_length : (octets : List ℕ) → 0 < length octets → 129 ≤ get_or octets 0 0 → get_or octets 0 0 ≤ 132 → leading_length octets ≡ long_length (get_or octets 0 0 - 128) (drop 1 octets)
unfolding leading_length
leading_length_long_length [] some low high = absurd (omega arith)
leading_length_long_length (x ∷ xs) some low high = rw (le-ltb x 128 (omega arith), ne_eqb x 128 (λ (e : x ≡ 128). omega arith), lt-leb 133 x (omega arith)) refl

pub long_length_short : (k : ℕ) (rest : List ℕ) → length rest < k → long_length k rest ≡ Err (ShortData (k - length rest))
long_length_short k rest l = rw (lt-ltb (length rest) k l) refl

pub long_length_not_shortest : (k : ℕ) (rest : List ℕ) → k ≤ length rest → (get_or rest 0 0 ≡ 0) ⊎ (number (take k rest) < 128) → long_length k rest ≡ Err InvalidLength
long_length_not_shortest k rest l (inl e) = rw (le-ltb (length rest) k l, eq-eqb (get_or rest 0 0) 0 e) refl
long_length_not_shortest k rest l (inr h) = rw (le-ltb (length rest) k l, lt-ltb (number (take k rest)) 128 h, or_right (eqb (get_or rest 0 0) 0) true refl) refl

pub long_length_found : (k : ℕ) (rest : List ℕ) → k ≤ length rest → (get_or rest 0 0 ≡ 0 → ⊥) → 128 ≤ number (take k rest) → long_length k rest ≡ Ok (number (take k rest), drop k rest)
long_length_found k rest l first h = rw (le-ltb (length rest) k l, ne_eqb (get_or rest 0 0) 0 first, le-ltb (number (take k rest)) 128 h) refl

-- ---- the length octets

pub Leads_digits_of : (n : ℕ) → Leads (digits_of 256 n)
Leads_digits_of zero l = absurd (omega arith)
Leads_digits_of (suc n) l = first_digits_of 256 (suc n) (lit≤ tt) (omega arith)

pub number_of_digits_of : (n : ℕ) → number (digits_of 256 n) ≡ n
number_of_digits_of n = sym (number_from_digits_256 (digits_of 256 n)) ∙ number_digits_of 256 n (lit≤ tt)

pub IsShortest_digits_of : (n : ℕ) → IsShortest (digits_of 256 n) n
IsShortest_digits_of n = record {
  encoding = all_below_base_digits_of 256 n (lit≤ tt);
  value = number_of_digits_of n;
  shortest = λ other is e. length-digits_of-le 256 (length other) n (lit≤ tt) (rw (sym e) (number_is_lt other is));
}

zero_first : (x : ℕ) (xs : List ℕ) → x ≡ 0 → number (x ∷ xs) ≡ number xs
zero_first x xs e = rw e (omega arith)

-- the fewest octets of a number don't begin with 0
shortest_leads : (octets : List ℕ) (n : ℕ) → IsShortest octets n → Leads octets
shortest_leads [] n is l = absurd (omega arith)
shortest_leads (x ∷ xs) n is l = ⊎_elim
    (λ (e : x ≡ 0). absurd (omega (arith, is.shortest xs is.encoding.1 (sym (zero_first x xs e) ∙ is.value))))
    (λ (some : x ≡ 0 → ⊥). omega arith) (cases_eq x 0)

pub IsShortest_only : (octets : List ℕ) (n : ℕ) → IsShortest octets n → octets ≡ digits_of 256 n
IsShortest_only octets n is =
    sym (digits_of_number_from_digits 256 octets (lit≤ tt) is.encoding (shortest_leads octets n is)) ∙ ap (digits_of 256) (number_from_digits_256 octets ∙ is.value)

pub length_octets_low : (n : ℕ) → n < 128 → length_octets n ≡ n ∷ []
unfolding length_octets
length_octets_low n l = rw (lt-ltb n 128 l) refl

pub length_octets_high : (n : ℕ) → 128 ≤ n → length_octets n ≡ (128 + length (digits_of 256 n)) ∷ digits_of 256 n
unfolding length_octets
length_octets_high n l = rw (le-ltb n 128 l) refl

pub AreLengthOctets_length_octets : (n : ℕ) → AreLengthOctets (length_octets n) n
AreLengthOctets_length_octets n = ⊎_elim
    (λ (l : n < 128). inl (l, length_octets_low n l))
    (λ (l : 128 ≤ n). inr (digits_of 256 n, l, IsShortest_digits_of n, length_octets_high n l)) (cases_lt n 128)

pub AreLengthOctets_only : (octets : List ℕ) (n : ℕ) → AreLengthOctets octets n → octets ≡ length_octets n
AreLengthOctets_only octets n (inl is) = is.1 ∙ sym (length_octets_low n is.0)
AreLengthOctets_only octets n (inr is) =
    let same = IsShortest_only is.0 n is.2 in
    is.3 ∙ ap (λ (l : List ℕ). (128 + length l) ∷ l) same ∙ sym (length_octets_high n is.1)

some_digits : (n : ℕ) → 128 ≤ n → 0 < length (digits_of 256 n)
some_digits n l = ⊎_elim
    (λ (e : length (digits_of 256 n) ≡ 0). absurd (omega (arith, sym (number_of_digits_of n) ∙ ap number (nil_from_length (digits_of 256 n) e))))
    (λ (e : length (digits_of 256 n) ≡ 0 → ⊥). omega arith) (cases_eq (length (digits_of 256 n)) 0)

pub length_digits_of_le_4 : (n : ℕ) → n < 2 ^ 32 → length (digits_of 256 n) ≤ 4
length_digits_of_le_4 n small = length-digits_of-le 256 4 n (lit≤ tt) small

-- a count of octets and the octets, if all are there
whole_form : (t rest : List ℕ) → 1 ≤ length t → length t ≤ 4 → leading_length ((128 + length t) ∷ (t ++ rest)) ≡ long_length (length t) (t ++ rest)
whole_form t rest some few =
    let count : 128 + length t - 128 ≡ length t = omega arith in
    leading_length_long_length ((128 + length t) ∷ (t ++ rest)) (omega arith) (omega arith) (omega arith) ∙ rw count refl

length_ok_high : (n : ℕ) (rest : List ℕ) → 128 ≤ n → n < 2 ^ 32 → leading_length (length_octets n ++ rest) ≡ Ok (n, rest)
length_ok_high n rest l small =
    let t = digits_of 256 n in
    let some : 0 < length t = some_digits n l in
    let same : take (length t) (t ++ rest) ≡ t = take_at t rest (length t) refl in
    let left : drop (length t) (t ++ rest) ≡ rest = drop_at t rest (length t) refl in
    let first : get_or (t ++ rest) 0 0 ≡ get_or t 0 0 = get_or_append_left t rest 0 0 some in
    let value : number (take (length t) (t ++ rest)) ≡ n = ap number same ∙ number_of_digits_of n in
    rw (length_octets_high n l) (whole_form t rest some (length_digits_of_le_4 n small)
    ∙ long_length_found (length t) (t ++ rest) (omega (arith, length-append t rest)) (λ (e : get_or (t ++ rest) 0 0 ≡ 0). omega (arith, Leads_digits_of n some, first)) (rw value l)
    ∙ rw (value, left) refl)

pub leading_length_length_octets : (n : ℕ) (rest : List ℕ) → n < 2 ^ 32 → leading_length (length_octets n ++ rest) ≡ Ok (n, rest)
leading_length_length_octets n rest small = ⊎_elim
    (λ (l : n < 128). rw (length_octets_low n l) (leading_length_low (n ∷ rest) (omega arith) l))
    (λ (l : 128 ≤ n). length_ok_high n rest l small) (cases_lt n 128)

-- octets that aren't the fewest of a number of 128 or more
not_length_octets_not_shortest : (t : List ℕ) → IsOctets t → 0 < length t → ((n : ℕ) → (128 + length t) ∷ t ≡ length_octets n → ⊥) → (get_or t 0 0 ≡ 0) ⊎ (number t < 128)
not_length_octets_not_shortest t is some apart = ⊎_elim
    (λ (e : get_or t 0 0 ≡ 0). inl e)
    (λ (lead : get_or t 0 0 ≡ 0 → ⊥). ⊎_elim
    (λ (l : number t < 128). inr l)
    (λ (l : 128 ≤ number t).
    let back : digits_of 256 (number t) ≡ t = ap (digits_of 256) (sym (number_from_digits_256 t)) ∙ digits_of_number_from_digits 256 t (lit≤ tt) is (λ (w : 0 < length t). omega arith) in
    absurd (apart (number t) (ap (λ (s : List ℕ). (128 + length s) ∷ s) (sym back) ∙ sym (length_octets_high (number t) l)))) (cases_lt (number t) 128)) (cases_eq (get_or t 0 0) 0)

bad_form : (t rest : List ℕ) → IsOctets t → 1 ≤ length t → length t ≤ 4 → ((n : ℕ) → (128 + length t) ∷ t ≡ length_octets n → ⊥) → leading_length ((128 + length t) ∷ (t ++ rest)) ≡ Err InvalidLength
bad_form t rest is some few apart =
    let same : take (length t) (t ++ rest) ≡ t = take_at t rest (length t) refl in
    let first : get_or (t ++ rest) 0 0 ≡ get_or t 0 0 = get_or_append_left t rest 0 0 some in
    whole_form t rest some few ∙ long_length_not_shortest (length t) (t ++ rest) (omega (arith, length-append t rest))
    (⊎_elim (λ (e : get_or t 0 0 ≡ 0). inl (first ∙ e)) (λ (l : number t < 128). inr (rw same l)) (not_length_octets_not_shortest t is some apart))

open_form : (t : List ℕ) (needed : ℕ) → 1 ≤ needed → length t + needed ≤ 4 → leading_length ((128 + (length t + needed)) ∷ t) ≡ Err (ShortData needed)
open_form t needed some few =
    let count : 128 + (length t + needed) - 128 ≡ length t + needed = omega arith in
    let left : length t + needed - length t ≡ needed = omega arith in
    leading_length_long_length ((128 + (length t + needed)) ∷ t) (omega arith) (omega arith) (omega arith) ∙ rw count (long_length_short (length t + needed) t (omega arith) ∙ rw left refl)

abbrev pub LengthFront : Type 0
LengthFront = Result (ℕ × List ℕ) ParseErrorKind

-- octets have only one result
pub leading_length_only : (octets : List ℕ) (answer : LengthFront) → IsOctets octets → IsLeadingLength octets answer → leading_length octets ≡ answer
leading_length_only octets (Ok found) is a = rw a.1 (leading_length_length_octets found.0 found.1 a.0)
leading_length_only octets (Err InvalidLength) is (inl (first, rest, bad, e)) = rw e (leading_length_bad_first (first ∷ rest) (omega arith) bad)
leading_length_only octets (Err InvalidLength) is (inr (t, rest, some, few, apart, e)) =
    rw e (bad_form t rest (IsOctets_prefix t rest (subst IsOctets e is).1) some few apart)
leading_length_only octets (Err (ShortData needed)) is (inl (e, one)) = rw (e, one) (leading_length_empty [] refl)
leading_length_only octets (Err (ShortData needed)) is (inr (t, some, few, e)) = rw e (open_form t needed some few)
leading_length_only octets (Err _) is a = absurd a

-- a length that is too large to be read
many_digits : (n : ℕ) → 2 ^ 32 ≤ n → 5 ≤ length (digits_of 256 n)
many_digits n big = ⊎_elim
    (λ (few : length (digits_of 256 n) < 5).
    let below : number (digits_of 256 n) < 256 ^ length (digits_of 256 n) = number_is_lt (digits_of 256 n) (IsShortest_digits_of n).encoding in
    let most : 256 ^ length (digits_of 256 n) ≤ 256 ^ 4 = pow-le-pow_right {n = 256} (lit< tt) {i = length (digits_of 256 n)} {j = 4} (omega arith) in
    absurd (omega (arith, number_of_digits_of n)))
    (λ (many : 5 ≤ length (digits_of 256 n)). many) (cases_lt (length (digits_of 256 n)) 5)

pub leading_length_too_big : (n : ℕ) (rest : List ℕ) → 2 ^ 32 ≤ n → leading_length (length_octets n ++ rest) ≡ Err InvalidLength
leading_length_too_big n rest big =
    rw (length_octets_high n (omega arith)) (leading_length_bad_first ((128 + length (digits_of 256 n)) ∷ (digits_of 256 n ++ rest)) (omega arith) (inr (omega (arith, many_digits n big))))

-- ---- all octets have a result
tail_same : {a b : ℕ} {s t : List ℕ} → a ∷ s ≡ b ∷ t → s ≡ t
tail_same e = cc

no_digits : (t : List ℕ) (n : ℕ) → 0 < length t → 128 ≤ n → (get_or t 0 0 ≡ 0) ⊎ (number t < 128) → t ≡ digits_of 256 n → ⊥
no_digits t n some l (inl e) same = omega (arith, Leads_digits_of n (rw (sym same) some), ap (λ s. get_or s 0 0) same)
no_digits t n some l (inr e) same = omega (arith, ap number same, number_of_digits_of n)

not_shortest_not_length_octets : (t : List ℕ) → 0 < length t → (get_or t 0 0 ≡ 0) ⊎ (number t < 128) → (n : ℕ) → (128 + length t) ∷ t ≡ length_octets n → ⊥
not_shortest_not_length_octets t some bad n e = ⊎_elim
    (λ (l : n < 128). omega (arith, ap length (e ∙ length_octets_low n l)))
    (λ (l : 128 ≤ n). no_digits t n some l bad (tail_same (e ∙ length_octets_high n l))) (cases_lt n 128)

whole_count : (k n : ℕ) → n < k → n + (k - n) ≡ k
whole_count k n l = omega arith

found_is : (k : ℕ) (t after : List ℕ) → IsOctets t → 1 ≤ k → k ≤ 4 → length t ≡ k → (get_or t 0 0 ≡ 0 → ⊥) → 128 ≤ number t → IsLeadingLength ((128 + k) ∷ (t ++ after)) (Ok (number t, after))
found_is k t after is some few e lead l =
    let back : digits_of 256 (number t) ≡ t = ap (digits_of 256) (sym (number_from_digits_256 t)) ∙ digits_of_number_from_digits 256 t (lit≤ tt) is (λ (w : 0 < length t). omega arith) in
    let below : number t < 256 ^ length t = number_is_lt t is in
    let most : 256 ^ length t ≤ 256 ^ 4 = pow-le-pow_right {n = 256} (lit< tt) {i = length t} {j = 4} (omega arith) in
    (omega arith, rw (length_octets_high (number t) l, back, e) refl)

good_or_bad : (a b : ℕ) → ((a ≡ 0) ⊎ (b < 128)) ⊎ ((a ≡ 0 → ⊥) × (128 ≤ b))
good_or_bad a b = ⊎_elim
    (λ (e : a ≡ 0). inl (inl e))
    (λ (n : a ≡ 0 → ⊥). ⊎_elim (λ (l : b < 128). inl (inr l)) (λ (l : 128 ≤ b). inr (n, l)) (cases_lt b 128)) (cases_eq a 0)

long_is_all : (k : ℕ) (t rest after : List ℕ) → IsOctets t → 1 ≤ k → k ≤ 4 → t ≡ take k rest → k ≤ length rest → length t ≡ k → rest ≡ t ++ after → after ≡ drop k rest → IsLeadingLength ((128 + k) ∷ rest) (long_length k rest)
long_is_all k t rest after is some few front l e whole back =
    let first : get_or rest 0 0 ≡ get_or t 0 0 = ap (λ s. get_or s 0 0) whole ∙ get_or_append_left t after 0 0 (omega arith) in
    let value : number (take k rest) ≡ number t = ap number (sym front) in
    ⊎_elim
    (λ (bad : (get_or t 0 0 ≡ 0) ⊎ (number t < 128)).
    let answer : long_length k rest ≡ Err InvalidLength = long_length_not_shortest k rest l (⊎_elim (λ (z : get_or t 0 0 ≡ 0). inl (first ∙ z)) (λ (m : number t < 128). inr (rw value m)) bad) in
    rw answer (inr (t, after, omega arith, omega arith, not_shortest_not_length_octets t (omega arith) bad, rw e (ap (λ s. (128 + k) ∷ s) whole))))
    (λ (good : (get_or t 0 0 ≡ 0 → ⊥) × (128 ≤ number t)).
    let answer : long_length k rest ≡ Ok (number t, after) = long_length_found k rest l (λ (z : get_or rest 0 0 ≡ 0). good.0 (sym first ∙ z)) (rw value good.1) ∙ rw (value, sym back) refl in
    rw (answer, whole) (found_is k t after is some few e good.0 good.1))
    (good_or_bad (get_or t 0 0) (number t))

long_is : (k : ℕ) (rest : List ℕ) → IsOctets rest → 1 ≤ k → k ≤ 4 → IsLeadingLength ((128 + k) ∷ rest) (long_length k rest)
long_is k rest is some few = ⊎_elim
    (λ (l : length rest < k). rw (lt-ltb (length rest) k l) (inr (rest, omega arith, omega arith, rw (whole_count k (length rest) (omega arith)) refl)))
    (λ (l : k ≤ length rest). long_is_all k (take k rest) rest (drop k rest) (IsOctets_prefix (take k rest) (drop k rest) (rw (take-append-drop k rest) is)) some few refl l (length-take-le k rest l) (sym (take-append-drop k rest)) refl) (cases_lt (length rest) k)

long_at : (first k : ℕ) (after : List ℕ) → 128 + k ≡ first → IsLeadingLength ((128 + k) ∷ after) (long_length k after) → IsLeadingLength (first ∷ after) (long_length k after)
long_at first k after e is = subst (λ (x : ℕ). IsLeadingLength (x ∷ after) (long_length k after)) e is

length_is_of : (first : ℕ) (after : List ℕ) → first < 256 → IsOctets after → IsLeadingLength (first ∷ after) (leading_length (first ∷ after))
unfolding leading_length
length_is_of first after small is = ⊎_elim
    (λ (l : first < 128). rw (lt-ltb first 128 l) (omega arith, rw (length_octets_low first l) refl))
    (λ (l : 128 ≤ first). ⊎_elim
    (λ (e : first ≡ 128). rw (le-ltb first 128 l, eq-eqb first 128 e) (inl (first, after, inl e, refl)))
    (λ (n : first ≡ 128 → ⊥). ⊎_elim
    (λ (m : first < 133). rw (le-ltb first 128 l, ne_eqb first 128 n, lt-leb 133 first m) (long_at first (first - 128) after (omega arith) (long_is (first - 128) after is (omega arith) (omega arith))))
    (λ (m : 133 ≤ first). rw (le-ltb first 128 l, ne_eqb first 128 n, le-leb 133 first m) (inl (first, after, inr m, refl))) (cases_lt first 133))
    (cases_eq first 128))
    (cases_lt first 128)

pub IsLeadingLength_leading_length : (octets : List ℕ) → IsOctets octets → IsLeadingLength octets (leading_length octets)
IsLeadingLength_leading_length [] is = subst (λ (a : LengthFront). IsLeadingLength [] a) (sym (leading_length_empty [] refl)) (inl (refl, refl))
IsLeadingLength_leading_length (first ∷ after) is = length_is_of first after is.0 is.1

-- ---- writing
pub length_digits_of_le_8 : (n : ℕ) → n < 2 ^ 64 → length (digits_of 256 n) ≤ 8
length_digits_of_le_8 n small = length-digits_of-le 256 8 n (lit≤ tt) small

pub write_length_step : (rest i : ℕ) (octets : List ℕ) → 0 < rest → 0 < i → i ≤ length octets → digits_of 256 (rest / 256) ++ drop (i - 1) (set octets (i - 1) (rest % 256)) ≡ digits_of 256 rest ++ drop i octets
write_length_step rest i octets more some l =
    let same : i - 1 + 1 ≡ i = omega arith in
    let in_it : i - 1 < length octets = omega arith in
    rw (drop-set octets (i - 1) (rest % 256), same, digits_of_step 256 rest (lit≤ tt) more, append_assoc) refl

pub bit_and_255 : (x : ℕ) → bit_and x 255 ≡ x % 256
bit_and_255 x = and_mask x 8

pub write_length_end : (n i : ℕ) (octets : List ℕ) → 128 ≤ n → n < 2 ^ 64 → 0 < i → i ≤ length octets → i + length (digits_of 256 n) ≡ 9 → drop i octets ≡ digits_of 256 n → drop (i - 1) (set octets (i - 1) (bit_or 128 (9 - i))) ≡ length_octets n
write_length_end n i octets l small some in_octets place whole =
    let same : i - 1 + 1 ≡ i = omega arith in
    let in_it : i - 1 < length octets = omega arith in
    let count : 9 - i ≡ length (digits_of 256 n) = omega arith in
    let few : length (digits_of 256 n) < 128 = omega (arith, length_digits_of_le_8 n small) in
    let top : bit_or 128 (9 - i) ≡ 128 + length (digits_of 256 n) = rw count (numeral_or 127 (length (digits_of 256 n)) refl few) in
    rw (drop-set octets (i - 1) (bit_or 128 (9 - i)), same, top, whole) (sym (length_octets_high n l))

pub OnOk_append : {T E : Type 0} (r : Result T E) (new old xs ys : List ℕ) → new ≡ (if is_ok r then old ++ xs else old) → xs ≡ ys → OnOk r (new ≡ old ++ ys)
OnOk_append (Ok x) new old xs ys e same = e ∙ ap (λ (s : List ℕ). old ++ s) same
OnOk_append (Err x) new old xs ys e same = tt
