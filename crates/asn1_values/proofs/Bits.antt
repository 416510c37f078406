-- How many binary digits a number has, by its octets.
use Rattle.std.proofs.Common.{◌≡◌, ℕ, zero, suc, ◌+◌, ◌-◌, ◌*◌, ◌/◌, ◌%◌, ◌^◌, ◌<◌, ◌≤◌, ◌⊎◌, Bool, true, false, leb, List, [], ◌∷◌, length, get_or, take, drop, refl, sym, ap, subst, ◌∙◌, inl, inr, ⊎_elim, arith, lit<, lit≤}
use Rattle.std.specs.Prelude.{pos, unsigned_abs, int_lt}
use Rattle.std.specs.Int.Digits.{digits_of, number_from_digits}
use Rattle.std.proofs.lemmas.Int.Digits.{length-digits_of-le, number_lt, number_digits_of, all_below_base_digits_of}
use Rattle.std.proofs.lemmas.Bool.{cases_lt, both_ways, lt-leb, le-leb, leb-true, leb-false}
use Rattle.std.proofs.lemmas.Nat.{pow-add, div-mul-add, div-add-mod', mod_below}
use Rattle.std.proofs.lemmas.List.{take_all}
use Rattle.std.proofs.Math.Nat.{pow-suc, pow-le-pow_right, mul-le-mul_right, add-mul}
use Rattle.asn1_core.specs.Base256.{IsOctets, number, signed_number}
use Rattle.asn1_core.specs.Integer.{turned}
use Rattle.asn1_core.specs.Lemmas.Lengths.{number_is_lt as text_lt}
use Rattle.asn1_core.specs.Lemmas.Integers.{shortest_nine, signed_number_low, signed_number_high, number_turned}
use Rattle.asn1_values.specs.Big.{IsSigned, bit_count}
use Rattle.asn1_values.specs.BigSteps.{IsMagnitude, magnitude}
use Rattle.asn1_values.specs.Lemmas.Big.{IsSigned_is_minimal, int_lt_signed_number}
use Rattle.asn1_core.proofs.Integers.{pow_256_positive, weight_power}
use Rattle.asn1_core.specs.Lemmas.Facts.{get_or_IsOctets}

-- ---- the highest digits

-- a number between two powers of two
pub length_digits_of_2 : (n j : ℕ) → 2 ^ j ≤ n → n < 2 ^ suc j → length (digits_of 2 n) ≡ suc j
length_digits_of_2 n j low high =
    let ds = digits_of 2 n in
    let most : length ds ≤ suc j = length-digits_of-le 2 (suc j) n (lit≤ tt) high in
    let same : number_from_digits 2 ds ≡ n = number_digits_of 2 n (lit≤ tt) in
    let under : number_from_digits 2 ds < 2 ^ length ds = number_lt 2 ds (all_below_base_digits_of 2 n (lit≤ tt)) in
    ⊎_elim
    (λ (h : j < length ds). omega (arith, most, h))
    (λ (h : length ds ≤ j).
    let more : 2 ^ length ds ≤ 2 ^ j = pow-le-pow_right {n = 2} (lit< tt) {i = length ds} {j = j} h in
    absurd (omega (arith, under, same, more, low)))
    (cases_lt j (length ds))

-- the first digits, and the others, which are below their weight_power
pub length_digits_of_2_more : (h r k p : ℕ) (m : ℕ) → p ≡ 256 ^ k → m ≡ h * p + r → r < p → (j : ℕ) → 2 ^ j ≤ h → h < 2 ^ suc j → length (digits_of 2 m) ≡ suc (j + 8 * k)
length_digits_of_2_more h r k p m weights e below j low high =
    let same : p ≡ 2 ^ (8 * k) = weights ∙ sym (weight_power k) in
    let least : 2 ^ (j + 8 * k) ≡ 2 ^ j * p = pow-add 2 j (8 * k) ∙ ap (λ (n : ℕ). 2 ^ j * n) (sym same) in
    let more : suc (j + 8 * k) ≡ suc j + 8 * k = omega arith in
    let most : 2 ^ suc (j + 8 * k) ≡ 2 ^ suc j * p = ap (λ (n : ℕ). 2 ^ n) more ∙ pow-add 2 (suc j) (8 * k) ∙ ap (λ (n : ℕ). 2 ^ suc j * n) (sym same) in
    length_digits_of_2 m (j + 8 * k)
    (omega (arith, least, e, mul-le-mul_right {m = 2 ^ j} {n = h} p low))
    (omega (arith, most, e, below, mul-le-mul_right {m = suc h} {n = 2 ^ suc j} p high))

-- ---- the first octet

sum_of : (a b p n : ℕ) → a + b ≡ n → a * p + b * p ≡ n * p
sum_of a b p n e = sym (add-mul a b p) ∙ ap (λ (k : ℕ). k * p) e

pub magnitude_first_nonnegative : (x : ℕ) (xs : List ℕ) → IsOctets xs → x ≡ magnitude false (x ∷ xs) / 256 ^ length xs
magnitude_first_nonnegative x xs is = sym (div-mul-add x (256 ^ length xs) (number xs) (text_lt xs is))

leading_by : (h r m p : ℕ) → m ≡ h * p + r → r < p → h ≡ m / p
leading_by h r m p e below = sym (div-mul-add h p r below) ∙ ap (λ (k : ℕ). k / p) (sym e)

pub magnitude_first_zeros_after : (x : ℕ) (xs : List ℕ) → x < 256 → number xs ≡ 0 → 256 - x ≡ magnitude true (x ∷ xs) / 256 ^ length xs
magnitude_first_zeros_after x xs small none =
    let p : ℕ = 256 ^ length xs in
    let sum : (256 - x) * p + x * p ≡ 256 * p = sum_of (256 - x) x p 256 (omega arith) in
    let whole : 256 ^ suc (length xs) ≡ p * 256 = pow-suc 256 (length xs) in
    leading_by (256 - x) 0 (magnitude true (x ∷ xs)) p (omega (arith, sum, whole, none)) (pow_256_positive (length xs))

pub magnitude_first_negative : (x : ℕ) (xs : List ℕ) → x < 256 → IsOctets xs → 0 < number xs → 255 - x ≡ magnitude true (x ∷ xs) / 256 ^ length xs
magnitude_first_negative x xs small is some =
    let p : ℕ = 256 ^ length xs in
    let sum : (255 - x) * p + x * p ≡ 255 * p = sum_of (255 - x) x p 255 (omega arith) in
    let whole : 256 ^ suc (length xs) ≡ p * 256 = pow-suc 256 (length xs) in
    let under : number xs < p = text_lt xs is in
    leading_by (255 - x) (p - number xs) (magnitude true (x ∷ xs)) p (omega (arith, sum, whole, under)) (omega (arith, under, some))

pub number_all_zero : (xs : List ℕ) → ((k : ℕ) → k < length xs → get_or xs k 0 ≡ 0) → number xs ≡ 0
number_all_zero [] each = refl
number_all_zero (x ∷ xs) each = rw (each 0 (omega arith), number_all_zero xs (λ k h. each (suc k) (omega arith))) (omega arith)

pub number_zero_all_zero : (xs : List ℕ) → number xs ≡ 0 → (k : ℕ) → k < length xs → get_or xs k 0 ≡ 0
number_zero_all_zero [] e k h = absurd (omega arith)
number_zero_all_zero (zero ∷ xs) e zero h = refl
number_zero_all_zero (suc x ∷ xs) e zero h = absurd (omega (arith, e, mul-le-mul_right {m = 1} {n = suc x} (256 ^ length xs) (omega arith), pow_256_positive (length xs)))
number_zero_all_zero (x ∷ xs) e (suc k) h = number_zero_all_zero xs (omega arith) k (omega arith)

-- whether the octets after the first are zero, by a test
pub number_is_positive : (b : Bool) (xs : List ℕ) → ((b ≡ true → (k : ℕ) → k < length xs → get_or xs k 0 ≡ 0) × (((k : ℕ) → k < length xs → get_or xs k 0 ≡ 0) → b ≡ true)) → b ≡ false → 0 < number xs
number_is_positive b xs h f = ⊎_elim (λ (n : number xs < 1). absurd (both_ways b f (h.1 (number_zero_all_zero xs (omega arith))))) (λ (n : 1 ≤ number xs). n) (cases_lt (number xs) 1)

-- ---- the absolute value

less : (t n p : ℕ) → t + n + 1 ≡ p → suc t ≡ p - n
less t n p e = omega arith

pub unsigned_abs_signed_number : (c : List ℕ) (b : Bool) → IsOctets c → b ≡ int_lt (signed_number c) (pos 0) → unsigned_abs (signed_number c) ≡ magnitude b c
unsigned_abs_signed_number c b is e =
    elim (cases_lt (get_or c 0 0) 128) [
      | inl h ↦
          let test : false ≡ b = sym (lt-leb 128 (get_or c 0 0) h) ∙ int_lt_signed_number c is ∙ sym e in
          ap unsigned_abs (signed_number_low c h) ∙ ap (λ (x : Bool). magnitude x c) test
      | inr h ↦
          let test : true ≡ b = sym (le-leb 128 (get_or c 0 0) h) ∙ int_lt_signed_number c is ∙ sym e in
          ap unsigned_abs (signed_number_high c is h) ∙ less (number (turned c)) (number c) (256 ^ length c) (number_turned c is) ∙ ap (λ (x : Bool). magnitude x c) test
    ]

-- an octet that shows only the sign
sign_apart : (b : Bool) (x : ℕ) (xs : List ℕ) → IsOctets (x ∷ xs) → b ≡ leb 128 x → (x ≡ 0) ⊎ (x ≡ 255) → magnitude b (x ∷ xs) ≡ magnitude b xs
sign_apart true x xs is e (inl h) = absurd (omega (arith, leb-true 128 x (sym e)))
sign_apart false x xs is e (inl h) = rw h (omega arith)
sign_apart true x xs is e (inr h) = let whole : 256 ^ suc (length xs) ≡ 256 ^ length xs * 256 = pow-suc 256 (length xs) in rw h (omega (arith, whole))
sign_apart false x xs is e (inr h) = absurd (omega (arith, leb-false 128 x (sym e)))

pub magnitude_first_positive : (b : Bool) (y : ℕ) (ys : List ℕ) → IsOctets (y ∷ ys) → ((b ≡ false) × (0 < y)) ⊎ ((b ≡ true) × (y < 255)) → 0 < magnitude b (y ∷ ys) / 256 ^ length ys
magnitude_first_positive true y ys is (inl h) = absurd cc
magnitude_first_positive false y ys is (inl h) = omega (arith, magnitude_first_nonnegative y ys is.1, h.1)
magnitude_first_positive false y ys is (inr h) = absurd cc
magnitude_first_positive true y ys is (inr h) =
    ⊎_elim
    (λ (n : number ys < 1). omega (arith, magnitude_first_zeros_after y ys is.0 (omega arith), h.1))
    (λ (n : 1 ≤ number ys). omega (arith, magnitude_first_negative y ys is.0 is.1 n, h.1))
    (cases_lt (number ys) 1)

pub IsMagnitude_whole : (c : List ℕ) (b : Bool) → IsSigned c → b ≡ int_lt (signed_number c) (pos 0) → ¬ (get_or c 0 0 ≡ 0) → ¬ (get_or c 0 0 ≡ 255) → IsMagnitude c c b
IsMagnitude_whole c true is e low high =
    record { value = unsigned_abs_signed_number c true is.octets e; encoding = is.octets; counts = λ l. inr (refl, omega (arith, high, get_or_IsOctets c is.octets 0)) }
IsMagnitude_whole c false is e low high =
    record { value = unsigned_abs_signed_number c false is.octets e; encoding = is.octets; counts = λ l. inl (refl, omega (arith, low)) }

signless_counts : (x : ℕ) (xs : List ℕ) (b : Bool) → IsSigned (x ∷ xs) → b ≡ leb 128 x → (x ≡ 0) ⊎ (x ≡ 255) → 0 < length xs → ((b ≡ false) × (0 < get_or xs 0 0)) ⊎ ((b ≡ true) × (get_or xs 0 0 < 255))
signless_counts x [] b is e way l = absurd (omega arith)
signless_counts x (y ∷ ys) b is e (inl h) l =
    inl (e ∙ lt-leb 128 x (omega arith), omega (arith, h, (shortest_nine x y ys (IsSigned_is_minimal (x ∷ y ∷ ys) is)).0))
signless_counts x (y ∷ ys) b is e (inr h) l =
    inr (e ∙ le-leb 128 x (omega arith), omega (arith, h, (shortest_nine x y ys (IsSigned_is_minimal (x ∷ y ∷ ys) is)).1, is.octets.1.0))

pub IsMagnitude_without_sign : (c : List ℕ) (b : Bool) → IsSigned c → b ≡ int_lt (signed_number c) (pos 0) → (get_or c 0 0 ≡ 0) ⊎ (get_or c 0 0 ≡ 255) → IsMagnitude c (drop 1 c) b
IsMagnitude_without_sign [] b is e way = absurd (omega (arith, is.some))
IsMagnitude_without_sign (x ∷ xs) b is e way =
    let first : b ≡ leb 128 x = e ∙ sym (int_lt_signed_number (x ∷ xs) is.octets) in
    record {
      value = unsigned_abs_signed_number (x ∷ xs) b is.octets e ∙ sign_apart b x xs is.octets first way;
      encoding = is.octets.1;
      counts = signless_counts x xs b is first way;
    }

pub IsMagnitude_first_positive : (c rest : List ℕ) (b : Bool) → IsMagnitude c rest b → (y : ℕ) (ys : List ℕ) → rest ≡ y ∷ ys → 0 < magnitude b (y ∷ ys) / 256 ^ length ys
IsMagnitude_first_positive c rest b h y ys e =
    let first : get_or rest 0 0 ≡ y = ap (λ (t : List ℕ). get_or t 0 0) e in
    let way : ((b ≡ false) × (0 < y)) ⊎ ((b ≡ true) × (y < 255)) = elim (h.counts (omega (arith, ap length e))) [
      | inl k ↦ inl (k.0, omega (arith, k.1, first))
      | inr k ↦ inr (k.0, omega (arith, k.1, first))
    ] in
    magnitude_first_positive b y ys (subst IsOctets e h.encoding) way

pub bit_count_IsMagnitude : (c rest : List ℕ) (b : Bool) → IsMagnitude c rest b → (y : ℕ) (ys : List ℕ) → rest ≡ y ∷ ys → (high j : ℕ) → high ≡ magnitude b (y ∷ ys) / 256 ^ length ys →
    2 ^ j ≤ high → high < 2 * 2 ^ j → 8 * length ys + j + 1 ≡ bit_count (signed_number c)
bit_count_IsMagnitude c rest b h y ys e high j is low above =
    let p : ℕ = 256 ^ length ys in
    let m : ℕ = magnitude b (y ∷ ys) in
    let value : unsigned_abs (signed_number c) ≡ m = h.value ∙ ap (magnitude b) e in
    let split : m ≡ high * p + m % p = sym (div-add-mod' m p) ∙ ap (λ (n : ℕ). n * p + m % p) (sym is) in
    let more : 2 ^ suc j ≡ 2 ^ j * 2 = pow-suc 2 j in
    let count : length (digits_of 2 m) ≡ suc (j + 8 * length ys) = length_digits_of_2_more high (m % p) (length ys) p m refl split (mod_below m p (pow_256_positive (length ys))) j low (omega (arith, above, more)) in
    omega (arith, count, ap (λ (n : ℕ). length (digits_of 2 n)) value)

-- a list that isn't empty is its first element and the others, as a pattern names them
pub first_and_others : (rest : List ℕ) → 1 ≤ length rest → rest ≡ get_or rest 0 0 ∷ take (length rest - 1) (drop 1 rest)
first_and_others [] l = absurd (omega arith)
first_and_others (y ∷ ys) l = ap (λ (t : List ℕ). y ∷ t) (sym (take_all (length (y ∷ ys) - 1) ys (omega arith)))

pub others_fewer : (rest : List ℕ) → 1 ≤ length rest → length (take (length rest - 1) (drop 1 rest)) + 1 ≡ length rest
others_fewer rest l = omega (arith, ap length (first_and_others rest l))

pub log_lt_9 : (n j : ℕ) → 2 ^ j ≤ n → n < 2 ^ 9 → j < 9
log_lt_9 n j low small =
    ⊎_elim
    (λ (h : j < 9). h)
    (λ (h : 9 ≤ j). let more : 2 ^ 9 ≤ 2 ^ j = pow-le-pow_right {n = 2} (lit< tt) {i = 9} {j = j} h in absurd (omega (arith, more, low, small)))
    (cases_lt j 9)
