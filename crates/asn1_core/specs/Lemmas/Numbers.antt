-- Numbers in base 128: what is at the start of the octets.
use Rattle.std.proofs.Common.{◌≡◌, ℕ, zero, suc, ◌+◌, ◌-◌, ◌*◌, ◌/◌, ◌%◌, ◌^◌, ◌<◌, ◌≤◌, ◌⊎◌, Bool, true, false, if◌then◌else◌, eqb, leb, ◌||◌, List, [], ◌∷◌, ◌++◌, length, get_or, take, drop, set, map, bit_or, bit_and, Result, Ok, Err, refl, sym, ap, subst, ◌∙◌, inl, inr, ⊎_elim, append_assoc, arith, lit<, lit≤}
use Rattle.std.specs.List.{prefix_len}
use Rattle.std.specs.Int.Digits.{digits_of}
use Rattle.std.proofs.lemmas.Int.Digits.{length-digits_of-le, digits_of_step}
use Rattle.std.proofs.lemmas.Bool.{le-leb, lt-leb, eq-eqb, ne_eqb, cases_lt, cases_eq, or_right}
use Rattle.std.proofs.lemmas.List.{append-nil, length-append, length_push, length-map, length-take-le, take-append-drop, take_all, take_more, drop_more, get_or-take, drop-set, map_push, take_at, drop_at}
use Rattle.std.proofs.lemmas.Nat.{mul-add-lt, and_mask}
use Rattle.std.proofs.lemmas.Grind.{pow_more, or_after_shift, numeral_or}
use Rattle.std.proofs.Math.Nat.{pow-le-pow_right, pow-suc, mul-le-mul_right}
use Rattle.asn1_core.specs.declared.parser.ParseErrorKind.{ParseErrorKind}
use Rattle.asn1_core.specs.declared.parser.ParseErrorKind.TheVariants.{InvalidValue, ShortData}
use Rattle.asn1_core.specs.Base256.{IsOctets}
use Rattle.asn1_core.specs.Base128.{digits_number, IsOpen, IsFinished, BeginsWithZero, AreNumberOctets, IsMalformed, IsLeadingNumber, number_octets, leading_number}

abbrev passes : ℕ → Bool
passes octet = leb 128 octet

-- open octets all pass, and the count goes on with the octets after them
prefix_len_IsOpen_append : (t rest : List ℕ) → IsOpen t → prefix_len passes (t ++ rest) ≡ length t + prefix_len passes rest
prefix_len_IsOpen_append [] rest o = omega arith
prefix_len_IsOpen_append (x ∷ xs) rest o = rw (le-leb 128 x o.0.0) (omega (arith, prefix_len_IsOpen_append xs rest o.1))

prefix_len_IsOpen : (t : List ℕ) → IsOpen t → prefix_len passes t ≡ length t
prefix_len_IsOpen [] o = refl
prefix_len_IsOpen (x ∷ xs) o = rw (le-leb 128 x o.0.0) (omega (arith, prefix_len_IsOpen xs o.1))

-- the last of finished octets doesn't pass
prefix_len_IsFinished_append : (t rest : List ℕ) → IsFinished t → prefix_len passes (t ++ rest) + 1 ≡ length t
prefix_len_IsFinished_append [] rest f = absurd f
prefix_len_IsFinished_append (x ∷ []) rest f = rw (lt-leb 128 x f) refl
prefix_len_IsFinished_append (x ∷ y ∷ ys) rest f = rw (le-leb 128 x f.0) (omega (arith, prefix_len_IsFinished_append (y ∷ ys) rest f.2))

pub digits_number_lt : (t : List ℕ) → digits_number t < 128 ^ length t
digits_number_lt [] = lit< tt
digits_number_lt (x ∷ xs) = rw (pow-suc 128 (length xs)) (mul-add-lt (x % 128) (128 ^ length xs) (digits_number xs) 128 (omega arith) (digits_number_lt xs))

pub digits_number_push : (t : List ℕ) (x : ℕ) → digits_number (t ++ x ∷ []) ≡ digits_number t * 128 + x % 128
digits_number_push [] x = grind arith
digits_number_push (y ∷ ys) x = rw (length_push ys x, pow_more 128 (length ys), digits_number_push ys x) (omega arith)

pub IsOpen_push : (t : List ℕ) (x : ℕ) → IsOpen t → 128 ≤ x → x < 256 → IsOpen (t ++ x ∷ [])
IsOpen_push [] x o a b = ((a, b), tt)
IsOpen_push (y ∷ ys) x o a b = (o.0, IsOpen_push ys x o.1 a b)

pub IsFinished_push : (t : List ℕ) (x : ℕ) → IsOpen t → x < 128 → IsFinished (t ++ x ∷ [])
IsFinished_push [] x o a = a
IsFinished_push (y ∷ []) x o a = (o.0.0, o.0.1, a)
IsFinished_push (y ∷ z ∷ zs) x o a = (o.0.0, o.0.1, IsFinished_push (z ∷ zs) x o.1 a)

ne_above : (x : ℕ) → ¬ (x ≡ 128) → 128 ≤ x → 129 ≤ x
ne_above x z a = omega arith

-- two or more octets of a number in base 128 that don't begin with 0x80 have a first digit above 0
digits_number_ge : (t : List ℕ) → IsFinished t → ¬ BeginsWithZero t → (k : ℕ) → length t ≡ suc (suc k) → 128 ^ suc k ≤ digits_number t
digits_number_ge [] f z k e = absurd f
digits_number_ge (x ∷ []) f z k e = absurd (omega arith)
digits_number_ge (x ∷ y ∷ ys) f z k e =
    let above : 1 ≤ x % 128 = omega (arith, f.0, f.1, ne_above x z) in
    let same : suc k ≡ length (y ∷ ys) = omega arith in
    rw same (omega (arith, mul-le-mul_right {m = 1} {n = x % 128} (128 ^ length (y ∷ ys)) above))

too_long : (t : List ℕ) → IsFinished t → ¬ BeginsWithZero t → digits_number t < 2 ^ 128 → 20 ≤ length t → ⊥
too_long t f z small h =
    let k : ℕ = length t - 2 in
    let least : 128 ^ suc k ≤ digits_number t = digits_number_ge t f z k (omega arith) in
    let more : 128 ^ 19 ≤ 128 ^ suc k = pow-le-pow_right {n = 128} (lit< tt) {i = 19} {j = suc k} (omega arith) in
    omega arith

-- finished octets that aren't malformed are at most 19
finished_short : (t : List ℕ) → IsFinished t → ¬ BeginsWithZero t → digits_number t < 2 ^ 128 → length t ≤ 19
finished_short t f z small = ⊎_elim (λ (h : length t < 20). omega arith) (λ (h : 20 ≤ length t). absurd (too_long t f z small h)) (cases_lt (length t) 20)

get_or_BeginsWithZero : (t rest : List ℕ) → BeginsWithZero t → get_or (t ++ rest) 0 0 ≡ 128
get_or_BeginsWithZero [] rest z = absurd (omega arith)
get_or_BeginsWithZero (x ∷ xs) rest z = z

get_or_not_BeginsWithZero : (t rest : List ℕ) → 0 < length t → ¬ BeginsWithZero t → get_or (t ++ rest) 0 0 ≡ 128 → ⊥
get_or_not_BeginsWithZero [] rest l z = absurd (omega arith)
get_or_not_BeginsWithZero (x ∷ xs) rest l z = z

-- ---- what is at the start of the octets

abbrev pub Front : Type 0
Front = Result (ℕ × List ℕ) ParseErrorKind

if_same : (b : Bool) (x : Front) → (if b then x else x) ≡ x
if_same true x = refl
if_same false x = refl

leading_number_begins_with_zero : (octets : List ℕ) → get_or octets 0 0 ≡ 128 → leading_number octets ≡ Err InvalidValue
unfolding leading_number
leading_number_begins_with_zero octets z = rw (eq-eqb (get_or octets 0 0) 128 z) refl

leading_number_many_open : (octets : List ℕ) → 19 ≤ prefix_len passes octets → leading_number octets ≡ Err InvalidValue
unfolding leading_number
leading_number_many_open octets h = rw (le-leb 19 (prefix_len passes octets) h, or_right (eqb (get_or octets 0 0) 128) true refl) refl

leading_number_all_open : (octets : List ℕ) → (get_or octets 0 0 ≡ 128 → ⊥) → prefix_len passes octets ≡ length octets → length octets < 19 → leading_number octets ≡ Err (ShortData 1)
unfolding leading_number
leading_number_all_open octets z e h = rw (ne_eqb (get_or octets 0 0) 128 z, e, lt-leb 19 (length octets) h, eq-eqb (length octets) (length octets) refl) refl

leading_number_at_first_finished : (octets : List ℕ) (k : ℕ) → (get_or octets 0 0 ≡ 128 → ⊥) → prefix_len passes octets ≡ k → k < length octets → k < 19 → digits_number (take (k + 1) octets) < 2 ^ 128 → leading_number octets ≡ Ok (digits_number (take (k + 1) octets), drop (k + 1) octets)
unfolding leading_number
leading_number_at_first_finished octets k z e l h small = rw (ne_eqb (get_or octets 0 0) 128 z, e, lt-leb 19 k h, ne_eqb k (length octets) (λ (w : k ≡ length octets). absurd (omega arith)), lt-leb (2 ^ 128) (digits_number (take (k + 1) octets)) small) refl

leading_number_too_big : (octets : List ℕ) (k : ℕ) → prefix_len passes octets ≡ k → k < length octets → 2 ^ 128 ≤ digits_number (take (k + 1) octets) → leading_number octets ≡ Err InvalidValue
unfolding leading_number
leading_number_too_big octets k e l big = rw (e, ne_eqb k (length octets) (λ (w : k ≡ length octets). absurd (omega arith)), le-leb (2 ^ 128) (digits_number (take (k + 1) octets)) big) (if_same (eqb (get_or octets 0 0) 128 || leb 19 k) (Err InvalidValue))

IsFinished_nonempty : (t : List ℕ) → IsFinished t → 0 < length t
IsFinished_nonempty [] f = absurd f
IsFinished_nonempty (x ∷ xs) f = omega arith

open_not_finished : (t : List ℕ) → IsOpen t → ¬ IsFinished t
open_not_finished [] o f = f
open_not_finished (x ∷ []) o f = absurd (omega arith)
open_not_finished (x ∷ y ∷ ys) o f = open_not_finished (y ∷ ys) o.1 f.2

pub leading_number_ok : (t rest : List ℕ) (n : ℕ) → AreNumberOctets t n → leading_number (t ++ rest) ≡ Ok (n, rest)
leading_number_ok t rest n is =
    let some : 0 < length t = IsFinished_nonempty t is.finished in
    let few : length t ≤ 19 = finished_short t is.finished is.shortest (rw is.value is.small) in
    let run : prefix_len passes (t ++ rest) + 1 ≡ length t = prefix_len_IsFinished_append t rest is.finished in
    let k : ℕ = prefix_len passes (t ++ rest) in
    let same : take (k + 1) (t ++ rest) ≡ t = take_at t rest (k + 1) (omega arith) in
    let left : drop (k + 1) (t ++ rest) ≡ rest = drop_at t rest (k + 1) (omega arith) in
    let small : digits_number (take (k + 1) (t ++ rest)) < 2 ^ 128 = rw (same, is.value) is.small in
    let done = leading_number_at_first_finished (t ++ rest) k (get_or_not_BeginsWithZero t rest some is.shortest) refl (omega (arith, length-append t rest)) (omega arith) small in
    done ∙ rw (same, left, is.value) refl

pub leading_number_malformed : (t rest : List ℕ) → IsMalformed t → leading_number (t ++ rest) ≡ Err InvalidValue
leading_number_malformed t rest (inl (o, inl z)) = leading_number_begins_with_zero (t ++ rest) (get_or_BeginsWithZero t rest z)
leading_number_malformed t rest (inl (o, inr l)) = leading_number_many_open (t ++ rest) (omega (arith, prefix_len_IsOpen_append t rest o))
leading_number_malformed t rest (inr (f, inl z)) = leading_number_begins_with_zero (t ++ rest) (get_or_BeginsWithZero t rest z)
leading_number_malformed t rest (inr (f, inr big)) =
    let some : 0 < length t = IsFinished_nonempty t f in
    let run : prefix_len passes (t ++ rest) + 1 ≡ length t = prefix_len_IsFinished_append t rest f in
    let k : ℕ = prefix_len passes (t ++ rest) in
    let same : take (k + 1) (t ++ rest) ≡ t = take_at t rest (k + 1) (omega arith) in
    leading_number_too_big (t ++ rest) k refl (omega (arith, length-append t rest)) (rw same big)

pub leading_number_open : (t : List ℕ) → IsOpen t → ¬ IsMalformed t → leading_number t ≡ Err (ShortData 1)
leading_number_open t o ok =
    leading_number_all_open t (λ z. ok (inl (o, inl z))) (prefix_len_IsOpen t o) (⊎_elim (λ (h : length t < 19). h) (λ (h : 19 ≤ length t). absurd (ok (inl (o, inr h)))) (cases_lt (length t) 19))

-- octets have only one result
pub leading_number_only : (octets : List ℕ) (answer : Front) → IsLeadingNumber octets answer → leading_number octets ≡ answer
leading_number_only octets (Ok found) is = rw is.2 (leading_number_ok is.0 found.1 found.0 is.1)
leading_number_only octets (Err InvalidValue) is = rw is.3 (leading_number_malformed is.0 is.1 is.2)
leading_number_only octets (Err (ShortData needed)) is = rw is.2 (leading_number_open octets is.0 is.1)
leading_number_only octets (Err _) is = absurd is

-- octets are open as a whole, or begin with finished octets
abbrev pub Split : List ℕ → Type 0
Split octets = IsOpen octets ⊎ ((t rest : List ℕ) × IsFinished t × (octets ≡ t ++ rest))

split_more : (x : ℕ) (xs : List ℕ) → 128 ≤ x → x < 256 → Split xs → Split (x ∷ xs)
split_more x xs a b (inl o) = inl ((a, b), o)
split_more x xs a b (inr ([], rest, f, e)) = absurd f
split_more x xs a b (inr (y ∷ ys, rest, f, e)) = inr (x ∷ y ∷ ys, rest, (a, b, f), ap (λ (l : List ℕ). x ∷ l) e)

pub IsOctets_Split : (octets : List ℕ) → IsOctets octets → Split octets
IsOctets_Split [] is = inl tt
IsOctets_Split (x ∷ xs) is =
    ⊎_elim (λ (h : x < 128). inr (x ∷ [], xs, h, refl)) (λ (h : 128 ≤ x). split_more x xs h is.0 (IsOctets_Split xs is.1)) (cases_lt x 128)

open_fine : (t : List ℕ) → IsOpen t → ¬ BeginsWithZero t → length t < 19 → ¬ IsMalformed t
open_fine t o z h (inl (p, inl q)) = z q
open_fine t o z h (inl (p, inr q)) = omega arith
open_fine t o z h (inr (f, q)) = open_not_finished t o f

-- octets are malformed or not
fault_of_open : (t : List ℕ) → IsOpen t → IsMalformed t ⊎ ¬ IsMalformed t
fault_of_open t o =
    ⊎_elim (λ (z : BeginsWithZero t). inl (inl (o, inl z)))
    (λ (z : ¬ BeginsWithZero t). ⊎_elim
    (λ (h : length t < 19). inr (open_fine t o z h))
    (λ (h : 19 ≤ length t). inl (inl (o, inr h))) (cases_lt (length t) 19))
    (cases_eq (get_or t 0 0) 128)

fault_of_finished : (t : List ℕ) → IsFinished t → IsMalformed t ⊎ AreNumberOctets t (digits_number t)
fault_of_finished t f =
    ⊎_elim (λ (z : BeginsWithZero t). inl (inr (f, inl z)))
    (λ (z : ¬ BeginsWithZero t). ⊎_elim
    (λ (h : digits_number t < 2 ^ 128). inr (record { finished = f; shortest = z; value = refl; small = h }))
    (λ (h : 2 ^ 128 ≤ digits_number t). inl (inr (f, inr h))) (cases_lt (digits_number t) (2 ^ 128)))
    (cases_eq (get_or t 0 0) 128)

at_open : (octets : List ℕ) → IsOpen octets → IsMalformed octets ⊎ ¬ IsMalformed octets → (answer : Front) × IsLeadingNumber octets answer
at_open octets o (inl bad) = (Err InvalidValue, (octets, [], bad, sym (append-nil octets)))
at_open octets o (inr fine) = (Err (ShortData 1), (o, fine, refl))

at_finished : (octets t rest : List ℕ) → octets ≡ t ++ rest → IsMalformed t ⊎ AreNumberOctets t (digits_number t) → (answer : Front) × IsLeadingNumber octets answer
at_finished octets t rest e (inl bad) = (Err InvalidValue, (t, rest, bad, e))
at_finished octets t rest e (inr fine) = (Ok (digits_number t, rest), (t, fine, e))

number_some_of : (octets : List ℕ) → Split octets → (answer : Front) × IsLeadingNumber octets answer
number_some_of octets (inl o) = at_open octets o (fault_of_open octets o)
number_some_of octets (inr (t, rest, f, e)) = at_finished octets t rest e (fault_of_finished t f)

-- all octets have a result
pub IsLeadingNumber_some : (octets : List ℕ) → IsOctets octets → (answer : Front) × IsLeadingNumber octets answer
IsLeadingNumber_some octets is = number_some_of octets (IsOctets_Split octets is)

-- and the function returns it
pub IsLeadingNumber_leading_number : (octets : List ℕ) → IsOctets octets → IsLeadingNumber octets (leading_number octets)
IsLeadingNumber_leading_number octets is =
    let found = IsLeadingNumber_some octets is in
    subst (λ (answer : Front). IsLeadingNumber octets answer) (sym (leading_number_only octets found.0 found.1)) found.1

-- ---- the exits of the loop that reads a number

mod_small : (x : ℕ) → x < 128 → x % 128 ≡ x
mod_small x b = omega arith

not_BeginsWithZero_push : (t : List ℕ) (x : ℕ) → ¬ BeginsWithZero t → x < 128 → ¬ BeginsWithZero (t ++ x ∷ [])
not_BeginsWithZero_push [] x z b e = omega arith
not_BeginsWithZero_push (y ∷ ys) x z b e = z e

few_small : (t : List ℕ) → length t < 18 → 2 ^ 121 ≤ digits_number t → ⊥
few_small t h big =
    let below : digits_number t < 128 ^ length t = digits_number_lt t in
    let most : 128 ^ length t ≤ 128 ^ 17 = pow-le-pow_right {n = 128} (lit< tt) {i = length t} {j = 17} (omega arith) in
    omega arith

-- 18 octets of digits may reach 2 ^ 121, and fewer do not
digits_number_length_ge : (t : List ℕ) → 2 ^ 121 ≤ digits_number t → 18 ≤ length t
digits_number_length_ge t big = ⊎_elim (λ (h : length t < 18). absurd (few_small t h big)) (λ h. h) (cases_lt (length t) 18)

IsMalformed_push_big : (t : List ℕ) (x : ℕ) → IsOpen t → length t < 19 → x < 256 → 2 ^ 121 ≤ digits_number t → IsMalformed (t ++ x ∷ [])
IsMalformed_push_big t x o l b big = ⊎_elim
    (λ (h : x < 128). inr (IsFinished_push t x o h, inr (rw (digits_number_push t x) (omega arith))))
    (λ (h : 128 ≤ x). inl (IsOpen_push t x o h b, inr (omega (arith, length_push t x, digits_number_length_ge t big)))) (cases_lt x 128)

pub leading_number_big_step : (t : List ℕ) (x : ℕ) (rest : List ℕ) → IsOpen t → length t < 19 → x < 256 → 2 ^ 121 ≤ digits_number t → leading_number (t ++ x ∷ rest) ≡ Err InvalidValue
leading_number_big_step t x rest o l b big =
    let e : t ++ x ∷ rest ≡ (t ++ x ∷ []) ++ rest = sym (append_assoc t (x ∷ []) rest) in
    rw e (leading_number_malformed (t ++ x ∷ []) rest (IsMalformed_push_big t x o l b big))

pub leading_number_last_octet : (t : List ℕ) (x : ℕ) (rest : List ℕ) → IsOpen t → ¬ BeginsWithZero t → x < 128 → digits_number t < 2 ^ 121 → leading_number (t ++ x ∷ rest) ≡ Ok (digits_number t * 128 + x, rest)
leading_number_last_octet t x rest o z b small =
    let e : t ++ x ∷ rest ≡ (t ++ x ∷ []) ++ rest = sym (append_assoc t (x ∷ []) rest) in
    let value : digits_number (t ++ x ∷ []) ≡ digits_number t * 128 + x = digits_number_push t x ∙ rw (mod_small x b) refl in
    rw e (leading_number_ok (t ++ x ∷ []) rest (digits_number t * 128 + x) (record { finished = IsFinished_push t x o b; shortest = not_BeginsWithZero_push t x z b; value = value; small = omega arith }))

pub leading_number_nineteen_open : (t rest : List ℕ) → IsOpen t → 19 ≤ length t → leading_number (t ++ rest) ≡ Err InvalidValue
leading_number_nineteen_open t rest o l = leading_number_malformed t rest (inl (o, inr l))

pub leading_number_open_short : (t : List ℕ) → IsOpen t → ¬ BeginsWithZero t → length t < 19 → leading_number t ≡ Err (ShortData 1)
leading_number_open_short t o z l = leading_number_open t o (open_fine t o z l)

-- ---- the encoding of a number

pub length_number_octets : (n : ℕ) → length (number_octets n) ≡ length (digits_of 128 (n / 128)) + 1
unfolding number_octets
length_number_octets n = rw (length_push, length-map) refl

pub length_digits_of_128_le : (n : ℕ) → n < 2 ^ 128 → length (digits_of 128 (n / 128)) ≤ 18
length_digits_of_128_le n small = length-digits_of-le 128 18 (n / 128) (omega arith) (omega arith)

-- ---- the same exits, at the index i of the octets
append_take_get_or_drop : (octets : List ℕ) (i : ℕ) → i < length octets → octets ≡ take i octets ++ get_or octets i 0 ∷ drop (i + 1) octets
append_take_get_or_drop octets i l = sym (take-append-drop i octets) ∙ ap (λ (s : List ℕ). take i octets ++ s) (drop_more octets i 0 l)

length_take_le : (octets : List ℕ) (i : ℕ) → i ≤ length octets → length (take i octets) ≡ i
length_take_le octets i l = length-take-le i octets l

pub leading_number_big_at : (octets : List ℕ) (i : ℕ) → i < length octets → IsOpen (take i octets) → i < 19 → get_or octets i 0 < 256 → 2 ^ 121 ≤ digits_number (take i octets) → leading_number octets ≡ Err InvalidValue
leading_number_big_at octets i l o few octet big =
    ap leading_number (append_take_get_or_drop octets i l) ∙ leading_number_big_step (take i octets) (get_or octets i 0) (drop (i + 1) octets) o (omega (arith, length_take_le octets i)) octet big

pub leading_number_zero_at : (octets : List ℕ) (i : ℕ) → i ≡ 0 → get_or octets i 0 ≡ 128 → leading_number octets ≡ Err InvalidValue
leading_number_zero_at octets i e z = leading_number_begins_with_zero octets (ap (λ (k : ℕ). get_or octets k 0) (sym e) ∙ z)

pub leading_number_last_at : (octets : List ℕ) (i : ℕ) → i < length octets → IsOpen (take i octets) → ¬ BeginsWithZero (take i octets) → get_or octets i 0 < 128 → digits_number (take i octets) < 2 ^ 121 → leading_number octets ≡ Ok (digits_number (take i octets) * 128 + get_or octets i 0, drop (i + 1) octets)
leading_number_last_at octets i l o z octet small =
    ap leading_number (append_take_get_or_drop octets i l) ∙ leading_number_last_octet (take i octets) (get_or octets i 0) (drop (i + 1) octets) o z octet small

pub leading_number_nineteen_at : (octets : List ℕ) (i : ℕ) → i ≤ length octets → IsOpen (take i octets) → 19 ≤ i → leading_number octets ≡ Err InvalidValue
leading_number_nineteen_at octets i l o many =
    ap leading_number (sym (take-append-drop i octets)) ∙ leading_number_nineteen_open (take i octets) (drop i octets) o (omega (arith, length_take_le octets i))

pub leading_number_end_at : (octets : List ℕ) (i : ℕ) → i ≡ length octets → IsOpen (take i octets) → ¬ BeginsWithZero (take i octets) → i < 19 → leading_number octets ≡ Err (ShortData 1)
leading_number_end_at octets i e o z few =
    let whole : take i octets ≡ octets = take_all i octets (omega arith) in
    leading_number_open_short octets (rw whole at o) (rw whole at z) (omega arith)

pub IsOpen_take_step : (octets : List ℕ) (i : ℕ) → i < length octets → IsOpen (take i octets) → 128 ≤ get_or octets i 0 → get_or octets i 0 < 256 → IsOpen (take (i + 1) octets)
IsOpen_take_step octets i l o a b = rw (take_more octets i 0 l) (IsOpen_push (take i octets) (get_or octets i 0) o a b)

pub digits_number_take_step : (octets : List ℕ) (i : ℕ) → i < length octets → digits_number (take (i + 1) octets) ≡ digits_number (take i octets) * 128 + get_or octets i 0 % 128
digits_number_take_step octets i l = rw (take_more octets i 0 l) (digits_number_push (take i octets) (get_or octets i 0))

pub not_BeginsWithZero_take_step : (octets : List ℕ) (i : ℕ) → i < length octets → ¬ BeginsWithZero (take i octets) → (i ≡ 0 → get_or octets i 0 ≡ 128 → ⊥) → ¬ BeginsWithZero (take (i + 1) octets)
not_BeginsWithZero_take_step octets i l z first = ⊎_elim
    (λ (e : i ≡ 0). λ (w : BeginsWithZero (take (i + 1) octets)). first e (ap (λ (k : ℕ). get_or octets k 0) e ∙ sym (get_or-take (i + 1) octets 0 0 (omega arith)) ∙ w))
    (λ (n : i ≡ 0 → ⊥). λ (w : BeginsWithZero (take (i + 1) octets)). z (get_or-take i octets 0 0 (omega arith) ∙ sym (get_or-take (i + 1) octets 0 0 (omega arith)) ∙ w)) (cases_eq i 0)

pub next_value : (number x : ℕ) → number < 2 ^ 121 → bit_or (number * 128 % 2 ^ 128) (bit_and x 127) ≡ number * 128 + x % 128
next_value number x small =
    rw (and_mask x 7) (or_after_shift number 128 (2 ^ 128) (x % 128) refl (omega arith) (omega arith))

pub bit_and_127 : (x : ℕ) → bit_and x 127 ≡ x % 128
bit_and_127 x = and_mask x 7

pub bit_or_128 : (x : ℕ) → bit_or 128 (bit_and x 127) ≡ 128 + x % 128
bit_or_128 x = rw (and_mask x 7) (numeral_or 127 (x % 128) refl (omega arith))

-- ---- writing

abbrev pub topped : ℕ → ℕ
topped digit = 128 + digit

pub write_number_start : (n k : ℕ) (old : List ℕ) → k ≡ length (number_octets n) → k ≤ length old → map topped (digits_of 128 (n / 128)) ++ drop (k - 1) (set old (k - 1) (n % 128)) ≡ number_octets n ++ drop k old
unfolding number_octets
write_number_start n k old e l =
    let some : k - 1 + 1 ≡ k = omega (arith, length_number_octets n) in
    let in_it : k - 1 < length old = omega (arith, length_number_octets n) in
    rw (drop-set old (k - 1) (n % 128), some, append_assoc) refl

pub digits_some : (n : ℕ) → 0 < length (digits_of 128 n) → 0 < n
digits_some zero l = l
digits_some (suc n) l = omega arith

pub write_number_step : (rest i : ℕ) (octets : List ℕ) → length (digits_of 128 rest) ≡ i → 0 < i → i ≤ length octets → map topped (digits_of 128 (rest / 128)) ++ drop (i - 1) (set octets (i - 1) (128 + rest % 128)) ≡ map topped (digits_of 128 rest) ++ drop i octets
write_number_step rest i octets e some l =
    let more : 0 < rest = digits_some rest (omega arith) in
    let same : i - 1 + 1 ≡ i = omega arith in
    let in_it : i - 1 < length octets = omega arith in
    rw (drop-set octets (i - 1) (128 + rest % 128), same, digits_of_step 128 rest (lit≤ tt) more, map_push, append_assoc) refl

pub length_number_octets_le_5 : (n : ℕ) → n < 2 ^ 32 → length (number_octets n) ≤ 5
length_number_octets_le_5 n small = omega (arith, length_number_octets n, length-digits_of-le 128 4 (n / 128) (lit≤ tt) (omega arith))
