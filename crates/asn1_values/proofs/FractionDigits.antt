-- The nine digits of a number of nanoseconds, without the trailing zeros, are the digits of its fraction.
use Rattle.std.proofs.Common.{rules, ◌≡◌, ℕ, zero, suc, ◌+◌, ◌-◌, ◌*◌, ◌/◌, ◌%◌, ◌^◌, ◌<◌, ◌≤◌, true, List, [], ◌∷◌, ◌++◌, length, take, drop, replicate, refl, sym, ap, subst, ◌∙◌, inl, inr, arith}
use Rattle.std.specs.Prelude.{decimal, slice_index, slice_index_or}
use Rattle.std.proofs.Math.Nat.{pow-succ'}
use Rattle.std.proofs.lemmas.Bool.{cases_eq}
use Rattle.std.proofs.lemmas.Nat.{div-add-mod', mod_below, div_below}
use Rattle.std.proofs.lemmas.Str.{digit_value_digit}
use Rattle.std.specs.Str.{all_ascii_digits}
use Rattle.std.specs.Str.Parse.{AllDigits}
use Rattle.std.proofs.lemmas.Fmt.{decimal_is_IsNumeral, length-decimal-le}
use Rattle.std.proofs.lemmas.Str.Parse.{IsNumeralModel, numerals_by_weight, digit_from_value}
use Rattle.std.proofs.lemmas.Int.Digits.{digits_value-lt}
use Rattle.std.proofs.lemmas.List.{append-nil, length-append, length-replicate, length-take, take-append-drop}
use Rattle.asn1_values.specs.Times.{fraction, IsFraction}
use Rattle.asn1_values.specs.Lemmas.Fractions.{drop_cons, fraction_zero, fraction_step, parts_zero, pow_10_positive}

-- the number that digits encode, by their positions
abbrev weighed : List ℕ → ℕ
weighed [] = 0
weighed (c ∷ cs) = (c - 48) * 10 ^ length cs + weighed cs

by_places : IsNumeralModel (λ ds. all_ascii_digits ds ≡ true) weighed
by_places = numerals_by_weight _ (search rules) weighed (search rules)

zeros_in_front : (j : ℕ) (ds : List ℕ) → weighed (replicate j 48 ++ ds) ≡ weighed ds
zeros_in_front zero ds = refl
zeros_in_front (suc j) ds = let h = zeros_in_front j ds in omega (arith, h)

weighed_decimal : (j n : ℕ) → n ≤ 999999999 → weighed (replicate j 48 ++ decimal n) ≡ n
weighed_decimal j n few =
    let d = decimal_is_IsNumeral n (omega (arith, few)) in
    zeros_in_front j (decimal n) ∙ by_places.same (decimal n) d.0.1 ∙ d.1

pub append_drop_9 : (t : List ℕ) → t ++ drop 9 (replicate 9 48) ≡ t
append_drop_9 t = append-nil t

-- ---- the last digit is not zero

abbrev IsEnded : List ℕ → Type 0
IsEnded [] = Unit {0}
IsEnded (c ∷ []) = c ≡ 48 → ⊥
IsEnded (c ∷ d ∷ ds) = IsEnded (d ∷ ds)

ended_by : (c : ℕ) (ds : List ℕ) → 0 < length ds → IsEnded ds → IsEnded (c ∷ ds)
ended_by c [] some h = absurd (omega (arith, some))
ended_by c (d ∷ ds) some h = h

some_taken : (k : ℕ) (ds : List ℕ) → k < length ds → 0 < length (take (k + 1) ds)
some_taken k [] h = absurd (omega (arith, h))
some_taken k (d ∷ ds) h =
    let e : k + 1 ≡ suc k = omega arith in
    rw e (omega arith)

ended_at : (k : ℕ) (ds : List ℕ) → k < length ds → (slice_index_or ds k 0 ≡ 48 → ⊥) → IsEnded (take (k + 1) ds)
ended_at k [] h other = absurd (omega (arith, h))
ended_at zero (d ∷ ds) h other = other
ended_at (suc k) (d ∷ ds) h other =
    let e : suc k + 1 ≡ suc (k + 1) = omega arith in
    rw e (ended_by d (take (k + 1) ds) (some_taken k ds (omega (arith, h))) (ended_at k ds (omega (arith, h)) other))

-- ---- zeros at the end add no digit

weighed_small : (ds : List ℕ) → AllDigits 10 ds → weighed ds < 10 ^ length ds
weighed_small ds all = rw (by_places.same ds all) (digits_value-lt 10 ds all)

digits_and_zeros : (ds : List ℕ) (j : ℕ) → AllDigits 10 ds → AllDigits 10 (ds ++ replicate j 48)
digits_and_zeros [] zero all = tt
digits_and_zeros [] (suc j) all = (omega arith, digits_and_zeros [] j tt)
digits_and_zeros (d ∷ ds) j all = (all.0, digits_and_zeros ds j all.1)

zeros_and_digits : (j : ℕ) (ds : List ℕ) → AllDigits 10 ds → AllDigits 10 (replicate j 48 ++ ds)
zeros_and_digits zero ds all = all
zeros_and_digits (suc j) ds all = (omega arith, zeros_and_digits j ds all)

length_append_zeros : (ds : List ℕ) (j : ℕ) → length (ds ++ replicate j 48) ≡ length ds + j
length_append_zeros ds j = length-append ds (replicate j 48) ∙ ap (λ (k : ℕ). length ds + k) (length-replicate j 48)

-- a digit before the digits of a fraction
one_more : (d j : ℕ) (ds : List ℕ) → AllDigits 10 (d ∷ ds) → ((d - 48) * 10 ^ (length ds + j) + weighed (ds ++ replicate j 48) ≡ 0 → ⊥)
    → fraction (length ds + j) (weighed (ds ++ replicate j 48)) [] ≡ ds → fraction (length (d ∷ ds) + j) (weighed (d ∷ ds ++ replicate j 48)) [] ≡ d ∷ ds
one_more d j ds all some e =
    let behind = ds ++ replicate j 48 in
    let k = length ds + j in
    let m = weighed behind in
    let range = digit_from_value d all.0 in
    let long : length behind ≡ k = length_append_zeros ds j in
    let more : length (d ∷ ds) + j ≡ suc k = omega arith in
    let small : m < 10 ^ k = subst (λ (x : ℕ). m < 10 ^ x) long (weighed_small behind (digits_and_zeros ds j all.1)) in
    let same : 48 + (d - 48) ≡ d = omega (arith, range) in
    ap (λ (x : ℕ). fraction x ((d - 48) * 10 ^ length behind + m) []) more
    ∙ ap (λ (x : ℕ). fraction (suc k) ((d - 48) * 10 ^ x + m) []) long
    ∙ fraction_step k (d - 48) m [] small some
    ∙ ap (λ (x : ℕ). x ∷ fraction k m []) same
    ∙ ap (λ (x : List ℕ). d ∷ x) e

without_zeros : (ds : List ℕ) (j : ℕ) → AllDigits 10 ds → IsEnded ds → fraction (length ds + j) (weighed (ds ++ replicate j 48)) [] ≡ ds
without_zeros [] j all ended =
    let none : weighed (replicate j 48) ≡ 0 = ap weighed (sym (append-nil (replicate j 48))) ∙ zeros_in_front j [] in
    rw none (fraction_zero (0 + j) [])
without_zeros (d ∷ []) j all ended =
    let range = digit_from_value d all.0 in
    let behind = without_zeros [] j tt tt in
    one_more d j [] all (λ z. let p = parts_zero (d - 48) (10 ^ (0 + j)) (weighed (replicate j 48)) (pow_10_positive (0 + j)) z in ended (omega (arith, p, range))) behind
without_zeros (d ∷ c ∷ ds) j all ended =
    let behind = without_zeros (c ∷ ds) j all.1 ended in
    let k = length (c ∷ ds) + j in
    one_more d j (c ∷ ds) all (λ z.
    let p = parts_zero (d - 48) (10 ^ k) (weighed (c ∷ ds ++ replicate j 48)) (pow_10_positive k) z in
    let none : c ∷ ds ≡ [] = sym behind ∙ ap (λ (x : ℕ). fraction k x []) p.1 ∙ fraction_zero k [] in
    absurd cc) behind

-- ---- what the loop keeps and ends with

AllDigits_prefix : (front behind : List ℕ) → AllDigits 10 (front ++ behind) → AllDigits 10 front
AllDigits_prefix [] behind all = tt
AllDigits_prefix (c ∷ cs) behind all = (all.0, AllDigits_prefix cs behind all.1)

length_nine : (octets : List ℕ) (n : ℕ) → n ≤ 999999999 → octets ≡ replicate (9 - length (decimal n)) 48 ++ decimal n → length octets ≡ 9
length_nine octets n few is =
    let k = length (decimal n) in
    let short : k ≤ 9 = length-decimal-le 9 n (omega arith) (omega (arith, few)) (omega (arith, few)) in
    let sum : length octets ≡ 9 - k + k = ap length is ∙ length-append (replicate (9 - k) 48) (decimal n) ∙ ap (λ (x : ℕ). x + k) (length-replicate (9 - k) 48) in
    omega (arith, sum, short)

pub zeros_step : (octets : List ℕ) (n count : ℕ) → n ≤ 999999999 → octets ≡ replicate (9 - length (decimal n)) 48 ++ decimal n → 0 < count → count ≤ 9 → slice_index_or octets (count - 1) 0 ≡ 48 → drop count octets ≡ replicate (9 - count) 48 → drop (count - 1) octets ≡ replicate (9 - (count - 1)) 48
zeros_step octets n count few is some most e h =
    let k = count - 1 in
    let next : k + 1 ≡ count = omega (arith, some) in
    let more : suc (9 - count) ≡ 9 - k = omega (arith, some, most) in
    let long = length_nine octets n few is in
    drop_cons octets k (omega (arith, some, most, long)) ∙ ap (λ (x : ℕ). x ∷ drop (k + 1) octets) e ∙ ap (λ (x : ℕ). 48 ∷ drop x octets) next ∙ ap (λ (l : List ℕ). 48 ∷ l) h ∙ ap (λ (x : ℕ). replicate x 48) more

take_fraction : (octets : List ℕ) (n count : ℕ) → n ≤ 999999999 → octets ≡ replicate (9 - length (decimal n)) 48 ++ decimal n → count ≤ 9 → IsEnded (take count octets) → drop count octets ≡ replicate (9 - count) 48 → take count octets ≡ fraction 9 n []
take_fraction octets n count few is most ended zeros =
    let front = take count octets in
    let whole : front ++ replicate (9 - count) 48 ≡ octets = ap (λ (l : List ℕ). front ++ l) (sym zeros) ∙ take-append-drop count octets in
    let d = decimal_is_IsNumeral n (omega (arith, few)) in
    let digits = AllDigits_prefix front (replicate (9 - count) 48) (subst (AllDigits 10) (sym (whole ∙ is)) (zeros_and_digits (9 - length (decimal n)) (decimal n) d.0.1)) in
    let value : weighed (front ++ replicate (9 - count) 48) ≡ n = ap weighed (whole ∙ is) ∙ weighed_decimal (9 - length (decimal n)) n few in
    let long = length_nine octets n few is in
    let size_of_front = length-take count octets in
    let taken : length front + (9 - count) ≡ 9 = omega (arith, size_of_front, most, long) in
    sym (ap (λ (k : ℕ). fraction k n []) (sym taken) ∙ ap (λ (k : ℕ). fraction (length front + (9 - count)) k []) (sym value) ∙ without_zeros front (9 - count) digits ended)

-- the loop ends at a digit that is not zero
pub take_fraction_done : (octets : List ℕ) (n count : ℕ) → n ≤ 999999999 → octets ≡ replicate (9 - length (decimal n)) 48 ++ decimal n → 0 < count → count ≤ 9 → (slice_index_or octets (count - 1) 0 ≡ 48 → ⊥) → drop count octets ≡ replicate (9 - count) 48 → take count octets ≡ fraction 9 n []
take_fraction_done octets n count few is some most last zeros =
    let k = count - 1 in
    let next : k + 1 ≡ count = omega (arith, some) in
    let long = length_nine octets n few is in
    take_fraction octets n count few is most (subst (λ (x : ℕ). IsEnded (take x octets)) next (ended_at k octets (omega (arith, some, most, long)) last)) zeros

-- or with no digit
pub take_fraction_none : (octets : List ℕ) (n count : ℕ) → n ≤ 999999999 → octets ≡ replicate (9 - length (decimal n)) 48 ++ decimal n → count ≡ 0 → drop count octets ≡ replicate (9 - count) 48 → take count octets ≡ fraction 9 n []
take_fraction_none octets n count few is none zeros = take_fraction octets n count few is (omega (arith, none)) (subst (λ (x : ℕ). IsEnded (take x octets)) (sym none) tt) zeros

-- ---- the digits of a fraction, as the relation says

ended_last : (ds : List ℕ) (k : ℕ) → length ds ≡ suc k → (slice_index ds k ≡ 48 → ⊥) → IsEnded ds
ended_last [] k long last = tt
ended_last (c ∷ []) zero long last = last
ended_last (c ∷ []) (suc k) long last = absurd (omega (arith, long))
ended_last (c ∷ d ∷ ds) zero long last = absurd (omega (arith, long))
ended_last (c ∷ d ∷ ds) (suc k) long last = ended_last (d ∷ ds) k (omega (arith, long)) last

last_ended : (ds : List ℕ) (k : ℕ) → length ds ≡ suc k → IsEnded ds → slice_index ds k ≡ 48 → ⊥
last_ended [] k long ended e = absurd (omega (arith, long))
last_ended (c ∷ []) zero long ended e = ended e
last_ended (c ∷ []) (suc k) long ended e = absurd (omega (arith, long))
last_ended (c ∷ d ∷ ds) zero long ended e = absurd (omega (arith, long))
last_ended (c ∷ d ∷ ds) (suc k) long ended e = last_ended (d ∷ ds) k (omega (arith, long)) ended e

pub IsFraction_fraction : (digits : List ℕ) (n : ℕ) → IsFraction digits n → digits ≡ fraction 9 n []
IsFraction_fraction digits n h =
    let j = 9 - length digits in
    let few = h.few in
    let long : length digits + j ≡ 9 = omega (arith, few) in
    let value : weighed (digits ++ replicate j 48) ≡ n = by_places.same (digits ++ replicate j 48) (digits_and_zeros digits j h.numeral.1) ∙ h.value in
    sym (ap (λ (k : ℕ). fraction k n []) (sym long) ∙ ap (λ (m : ℕ). fraction (length digits + j) m []) (sym value) ∙ without_zeros digits j h.numeral.1 (ended_last digits (length digits - 1) (let some = h.numeral.0 in omega (arith, some)) h.last))

-- the digits that `fraction` gives
record IsFractionIn (k n : ℕ) (digits : List ℕ) : Type 0 where
  all : AllDigits 10 digits
  few : length digits ≤ k
  value : weighed (digits ++ replicate (k - length digits) 48) ≡ n
  ended : IsEnded digits
  none : length digits ≡ 0 → n ≡ 0

no_fraction : (k : ℕ) → IsFractionIn k 0 []
no_fraction k =
    let zeros : weighed (replicate k 48) ≡ 0 = ap weighed (sym (append-nil (replicate k 48))) ∙ zeros_in_front k [] in
    let whole : k - 0 ≡ k = omega arith in
    record { all = tt; few = omega arith; value = ap (λ (x : ℕ). weighed (replicate x 48)) whole ∙ zeros; ended = tt; none = λ e. refl }

before_ended : (c : ℕ) (ds : List ℕ) → (length ds ≡ 0 → c ≡ 48 → ⊥) → IsEnded ds → IsEnded (c ∷ ds)
before_ended c [] some ended = some refl
before_ended c (d ∷ ds) some ended = ended

one_before : (k d m : ℕ) (ds : List ℕ) → d < 10 → (d * 10 ^ k + m ≡ 0 → ⊥) → IsFractionIn k m ds → IsFractionIn (suc k) (d * 10 ^ k + m) ((48 + d) ∷ ds)
one_before k d m ds few some h =
    let behind = ds ++ replicate (k - length ds) 48 in
    let short = h.few in
    let long : length behind ≡ k = length_append_zeros ds (k - length ds) ∙ omega (arith, short) in
    let digit : 48 + d - 48 ≡ d = omega arith in
    let left : suc k - length ((48 + d) ∷ ds) ≡ k - length ds = omega arith in
    let ascii = digit_value_digit (48 + d) (omega arith, omega (arith, few)) in
    record {
      all = (omega (arith, ascii, few), h.all);
      few = omega (arith, short);
      value = ap (λ (x : ℕ). weighed ((48 + d) ∷ ds ++ replicate x 48)) left ∙ ap (λ (x : ℕ). x * 10 ^ length behind + weighed behind) digit ∙ ap (λ (x : ℕ). d * 10 ^ x + weighed behind) long ∙ ap (λ (x : ℕ). d * 10 ^ k + x) h.value;
      ended = before_ended (48 + d) ds (λ e i. some (let zero = h.none e in let first : d ≡ 0 = omega (arith, i) in rw first (omega (arith, zero)))) h.ended;
      none = λ e. absurd (omega (arith, e));
    }

fraction_is : (k n : ℕ) → n < 10 ^ k → IsFractionIn k n (fraction k n [])
fraction_is zero n h =
    let none : n ≡ 0 = omega (arith, h) in
    rw (none, fraction_zero 0 []) (no_fraction 0)
fraction_is (suc k) n h = elim (cases_eq n 0) [
  | inl none ↦ rw (none, fraction_zero (suc k) []) (no_fraction (suc k))
  | inr more ↦
      let p = 10 ^ k in
      let d = n / p in
      let m = n % p in
      let whole : d * p + m ≡ n = div-add-mod' n p in
      let below : m < p = mod_below n p (pow_10_positive k) in
      let power = pow-succ' 10 k in
      let few : d < 10 = div_below n p 10 (pow_10_positive k) (omega (arith, power, h)) in
      let some : d * p + m ≡ 0 → ⊥ = λ e. more (sym whole ∙ e) in
      subst (λ (x : ℕ). IsFractionIn (suc k) x (fraction (suc k) x [])) whole
      (subst (IsFractionIn (suc k) (d * p + m)) (sym (fraction_step k d m [] below some)) (one_before k d m (fraction k m []) few some (fraction_is k m below)))
]

pub fraction_IsFraction : (n : ℕ) → 1 ≤ n → n ≤ 999999999 → IsFraction (fraction 9 n []) n
fraction_IsFraction n from to =
    let h = fraction_is 9 n (omega (arith, to)) in
    let digits = fraction 9 n [] in
    let j = 9 - length digits in
    let some : 0 < length digits = elim (cases_eq (length digits) 0) [
      | inl e ↦ let none = h.none e in absurd (omega (arith, none, from))
      | inr e ↦ omega (arith, e)
    ] in
    record {
      numeral = (some, h.all);
      few = h.few;
      value = sym (by_places.same (digits ++ replicate j 48) (digits_and_zeros digits j h.all)) ∙ h.value;
      last = last_ended digits (length digits - 1) (omega (arith, some)) h.ended;
    }
