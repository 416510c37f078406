-- Integers as the code reads and writes them: sixteen octets, of which the last are the contents octets.
use Rattle.std.proofs.Common.{◌≡◌, ℕ, zero, suc, ◌+◌, ◌-◌, ◌*◌, ◌/◌, ◌%◌, ◌^◌, ◌<◌, ◌≤◌, ◌⊎◌, Bool, true, false, if◌then◌else◌, leb, Ok, Err, List, [], ◌∷◌, ◌++◌, length, get_or, take, drop, replicate, refl, sym, ap, subst, ◌∙◌, inl, inr, ⊎_elim, arith, lit<, lit≤}
use Rattle.std.specs.Prelude.{ℤ, pos, negsuc, neg_ℤ, ◌≤ℤ◌, ◌<ℤ◌, int_lt, unsigned_abs, FitsSigned}
use Rattle.std.specs.Int.Digits.{digits_of}
use Rattle.std.specs.Int.{Width, w64, w128, to_be_bytes, from_be_bytes, bytes_high_first, byte_worth, sum_through, cast_unsigned, cast_signed}
use Rattle.std.proofs.lemmas.Int.{ints, to_z-of_z, to_z_pos}
use Rattle.std.proofs.lemmas.Bool.{le-leb, lt-leb, leb-true, leb-false, cases_lt, cases_Bool}
use Rattle.std.proofs.lemmas.List.{append-nil, take_more, take_all, take-replicate, drop_all, drop-replicate, length-append, length-replicate}
use Rattle.std.specs.Int.Count.{count_leading_zeros}
use Rattle.std.proofs.lemmas.Nat.{pow-add, div-add-mod', mod-mul-add, mul-add-lt, mod_below, leading_length}
use Rattle.std.proofs.Math.Facts.{to_z-neg}
use borrow.Rule.Slice.PartMut.{put_mid}
use Rattle.std.proofs.Math.Nat.{pow-suc, pow-le-pow_right, mul-le-mul_right}
use Rattle.asn1_core.specs.Base256.{IsOctets, number, signed_number}
use Rattle.asn1_core.specs.declared.parser.ParseErrorKind.TheVariants.{InvalidValue, IntegerOverflow}
use Rattle.asn1_core.specs.ReadError.{ReadError, read_error}
use Rattle.asn1_core.specs.Integer.{nine_bits, is_minimal, with_sign, turned, integer_content, below, within_range, read_sized}
use Rattle.asn1_core.specs.Lemmas.Lengths.{number_is_lt, number_of_push as number_take_step}
use Rattle.asn1_core.specs.Lemmas.Integers.{number_zero_cons, signed_number_low, signed_number_high, length_turned, IsOctets_turned, turned_low, number_turned, is_minimal_turned, shortest_nine, signed_number_not_minimal, integer_content_only, IsOctets_integer_content, is_minimal_integer_content, signed_number_integer_content, within_range_ok, within_range_below, within_range_above, read_sized_minimal, read_sized_not_minimal}

-- ---- one more octet

number_next : (t : List ℕ) (i : ℕ) → i < length t → number (take i t) * 256 + get_or t i 0 ≡ number (take (i + 1) t)
number_next t i h = sym (number_take_step (take i t) (get_or t i 0)) ∙ ap number (sym (take_more t i 0 h))

-- ---- more than nine contents octets

long_number : (x y r p q : ℕ) → 0 < nine_bits x y → 2 ^ 64 ≤ p → q ≡ p * 256 → 2 ^ 71 ≤ x * q + (y * p + r)
long_number zero y r p q some most e = omega (arith, mul-le-mul_right {m = 128} {n = y} p (omega arith))
long_number (suc x) y r p q some most e = omega (arith, mul-le-mul_right {m = 1} {n = suc x} q (omega arith))

pub long_low : (c : List ℕ) → is_minimal c ≡ true → 9 < length c → 2 ^ 71 ≤ number c
long_low [] e l = absurd (omega arith)
long_low (x ∷ []) e l = absurd (omega arith)
long_low (x ∷ y ∷ ys) e l =
    let some : 0 < nine_bits x y = omega (arith, (shortest_nine x y ys e).0) in
    let most : 256 ^ 8 ≤ 256 ^ length ys = pow-le-pow_right {n = 256} (lit< tt) {i = 8} {j = length ys} (omega arith) in
    long_number x y (number ys) (256 ^ length ys) (256 ^ suc (length ys)) some most (pow-suc 256 (length ys))

pub long_above : (c : List ℕ) (high : ℤ) → is_minimal c ≡ true → 9 < length c → get_or c 0 0 < 128 → high <ℤ pos (2 ^ 71) → high <ℤ signed_number c
long_above c high e l h most = rw (signed_number_low c h) (let n = long_low c e l in omega (arith, ints))

pub long_below : (c : List ℕ) (low : ℤ) → IsOctets c → is_minimal c ≡ true → 9 < length c → 128 ≤ get_or c 0 0 → neg_ℤ (pos (2 ^ 71)) ≤ℤ low → signed_number c <ℤ low
long_below c low is e l h least =
    rw (signed_number_high c is h) (
    let n : 2 ^ 71 ≤ number (turned c) = long_low (turned c) (is_minimal_turned c is e) (omega (arith, length_turned c)) in
    omega (arith, ints)
    )

beyond_itself : {z : ℤ} → (z <ℤ z) ⊎ (z <ℤ z) → ⊥
beyond_itself (inl h) = omega (arith, ints)
beyond_itself (inr h) = omega (arith, ints)

-- a number of fixed width has at most nine contents octets
pub length_integer_content_le_9 : (z : ℤ) → neg_ℤ (pos (2 ^ 71)) ≤ℤ z → z <ℤ pos (2 ^ 71) → length (integer_content z) ≤ 9
length_integer_content_le_9 z least most =
    let c : List ℕ = integer_content z in
    ⊎_elim
    (λ (long : 9 < length c). ⊎_elim
    (λ (h : get_or c 0 0 < 128). absurd (beyond_itself (inl (subst (λ (x : ℤ). z <ℤ x) (signed_number_integer_content z) (long_above c z (is_minimal_integer_content z) long h most)))))
    (λ (h : 128 ≤ get_or c 0 0). absurd (beyond_itself (inr (subst (λ (x : ℤ). x <ℤ z) (signed_number_integer_content z) (long_below c z (IsOctets_integer_content z) (is_minimal_integer_content z) long h least)))))
    (cases_lt (get_or c 0 0) 128))
    (λ (few : length c ≤ 9). few)
    (cases_lt 9 (length c))

-- ---- the sixteen octets of a number

pub pow_256_positive : (k : ℕ) → 0 < 256 ^ k
pow_256_positive k = let least : 256 ^ 0 ≤ 256 ^ k = pow-le-pow_right {n = 256} (lit< tt) {i = 0} {j = k} (omega arith) in omega arith

length_bytes_high_first : (k n : ℕ) → length (bytes_high_first k n) ≡ k
length_bytes_high_first zero n = refl
length_bytes_high_first (suc k) n = ap suc (length_bytes_high_first k n)

split_at : (n p : ℕ) → 0 < p → n / p % 256 * p + n % p ≡ n % (p * 256)
split_at n p some =
    let q : ℕ = n / p in
    let whole : n ≡ q / 256 * (p * 256) + (q % 256 * p + n % p) =
    sym (div-add-mod' n p) ∙ ap (λ (k : ℕ). k * p + n % p) (sym (div-add-mod' q 256)) ∙ grind arith in
    sym (ap (λ (k : ℕ). k % (p * 256)) whole ∙ mod-mul-add (q / 256) (p * 256) (q % 256 * p + n % p) (mul-add-lt (q % 256) p (n % p) 256 (omega arith) (mod_below n p some)))

number_bytes_high_first : (k n : ℕ) → number (bytes_high_first k n) ≡ n % 256 ^ k
number_bytes_high_first zero n = omega arith
number_bytes_high_first (suc zero) n = omega arith
number_bytes_high_first (suc (suc k)) n =
    rw (length_bytes_high_first (suc k) n, number_bytes_high_first (suc k) n, pow-suc 256 (suc k)) (split_at n (256 ^ suc k) (pow_256_positive (suc k)))

IsOctets_bytes_high_first : (k n : ℕ) → IsOctets (bytes_high_first k n)
IsOctets_bytes_high_first zero n = tt
IsOctets_bytes_high_first (suc zero) n = (omega arith, tt)
IsOctets_bytes_high_first (suc (suc k)) n = (mod_below (n / 256 ^ suc k) 256 (lit< tt), IsOctets_bytes_high_first (suc k) n)

sixteen_low : (m : ℕ) → m < 2 ^ 127 → signed_number (bytes_high_first 16 m) ≡ pos m
sixteen_low m small = signed_number_low (bytes_high_first 16 m) (omega arith) ∙ ap pos (number_bytes_high_first 16 m ∙ omega arith)

sixteen_high : (m n : ℕ) → m < 2 ^ 127 → n ≡ 2 ^ 128 - suc m → signed_number (bytes_high_first 16 n) ≡ negsuc m
sixteen_high m n small e =
    let b : List ℕ = bytes_high_first 16 n in
    let is : IsOctets b = IsOctets_bytes_high_first 16 n in
    let value : number b ≡ n % 256 ^ 16 = number_bytes_high_first 16 n in
    let same : number (turned b) ≡ m = omega (arith, number_turned b is, value) in
    signed_number_high b is (omega arith) ∙ ap negsuc same

signed_number_sixteen_octets : (z : ℤ) → FitsSigned w128 z → signed_number (to_be_bytes w128 (cast_unsigned w128 z)) ≡ z
signed_number_sixteen_octets (pos m) fits = sixteen_low m fits.sfits
signed_number_sixteen_octets (negsuc m) fits = sixteen_high m _ fits.sfits refl

eight_low : (m : ℕ) → m < 2 ^ 63 → signed_number (bytes_high_first 8 m) ≡ pos m
eight_low m small = signed_number_low (bytes_high_first 8 m) (omega arith) ∙ ap pos (number_bytes_high_first 8 m ∙ omega arith)

eight_high : (m n : ℕ) → m < 2 ^ 63 → n ≡ 2 ^ 64 - suc m → signed_number (bytes_high_first 8 n) ≡ negsuc m
eight_high m n small e =
    let b : List ℕ = bytes_high_first 8 n in
    let is : IsOctets b = IsOctets_bytes_high_first 8 n in
    let value : number b ≡ n % 256 ^ 8 = number_bytes_high_first 8 n in
    let same : number (turned b) ≡ m = omega (arith, number_turned b is, value) in
    signed_number_high b is (omega arith) ∙ ap negsuc same

signed_number_eight_octets : (z : ℤ) → FitsSigned w64 z → signed_number (to_be_bytes w64 (cast_unsigned w64 z)) ≡ z
signed_number_eight_octets (pos m) fits = eight_low m fits.sfits
signed_number_eight_octets (negsuc m) fits = eight_high m _ fits.sfits refl

-- ---- the contents octets at the end of the octets

-- the contents octets come after superfluous octets
pub record EndsWithContent (t c : List ℕ) : Type 0 where
  pub fewer : length c ≤ length t
  pub content : drop (length t - length c) t ≡ c

EndsWithContent_refl : (t c : List ℕ) → t ≡ c → EndsWithContent t c
EndsWithContent_refl t c e =
    let size = ap length e in
    let none : length t - length c ≡ 0 = omega (arith, size) in
    record { fewer = omega (arith, size); content = ap (λ (k : ℕ). drop k t) none ∙ e }

EndsWithContent_cons : (x : ℕ) (xs c : List ℕ) → EndsWithContent xs c → EndsWithContent (x ∷ xs) c
EndsWithContent_cons x xs c behind =
    let more : length (x ∷ xs) - length c ≡ suc (length xs - length c) = omega (arith, behind.fewer) in
    record { fewer = omega (arith, behind.fewer); content = ap (λ (k : ℕ). drop k (x ∷ xs)) more ∙ behind.content }

EndsWithContent_integer_content : (t : List ℕ) → IsOctets t → 0 < length t → EndsWithContent t (integer_content (signed_number t))
EndsWithContent_integer_content [] is l = absurd (omega arith)
EndsWithContent_integer_content (x ∷ []) is l = EndsWithContent_refl (x ∷ []) _ (integer_content_only (x ∷ []) is refl)
EndsWithContent_integer_content (x ∷ y ∷ ys) is l =
    elim (cases_Bool (is_minimal (x ∷ y ∷ ys))) [
      | inl e ↦ EndsWithContent_refl (x ∷ y ∷ ys) _ (integer_content_only (x ∷ y ∷ ys) is e)
      | inr e ↦
          let behind = EndsWithContent_cons x (y ∷ ys) (integer_content (signed_number (y ∷ ys))) (EndsWithContent_integer_content (y ∷ ys) is.1 (omega arith)) in
          subst (λ (z : ℤ). EndsWithContent (x ∷ y ∷ ys) (integer_content z)) (sym (signed_number_not_minimal x y ys is e)) behind
    ]

-- ---- the weight of the first octet

pub weight_power : (k : ℕ) → 2 ^ (8 * k) ≡ 256 ^ k
weight_power zero = refl
weight_power (suc k) =
    let more : 8 * suc k ≡ 8 * k + 8 = omega arith in
    ap (λ (n : ℕ). 2 ^ n) more ∙ pow-add 2 (8 * k) 8 ∙ ap (λ (n : ℕ). n * 256) (weight_power k) ∙ sym (pow-suc 256 k)

-- ---- how many contents octets a number has, from its bits

bits_below : (k b n : ℕ) → 2 ^ k ≤ 2 * n + 1 → n < 2 ^ b → k ≤ b
bits_below k b n most small =
    elim (cases_lt b k) [
      | inl h ↦
          let more : 2 ^ suc b ≤ 2 ^ k = pow-le-pow_right {n = 2} (lit< tt) {i = suc b} {j = k} (omega arith) in
          let twice : 2 ^ suc b ≡ 2 ^ b * 2 = pow-suc 2 b in
          absurd (omega (arith, twice, more))
      | inr h ↦ h
    ]

bits_above : (k a n : ℕ) → n < 2 ^ k → 2 ^ a ≤ n → a < k
bits_above k a n small most =
    elim (cases_lt a k) [
      | inl h ↦ h
      | inr h ↦
          let less : 2 ^ k ≤ 2 ^ a = pow-le-pow_right {n = 2} (lit< tt) {i = k} {j = a} h in
          absurd (omega (arith, less))
    ]

bits_between : (k j n p : ℕ) → 2 ^ (8 * j) ≡ p → p * 128 ≤ n → n < p * 32768 → n < 2 ^ k → 2 ^ k ≤ 2 * n + 1 → k / 8 ≡ j + 1
bits_between k j n p weight least under small most =
    let low : 2 ^ (8 * j + 7) ≡ p * 128 = pow-add 2 (8 * j) 7 ∙ ap (λ (m : ℕ). m * 128) weight in
    let high : 2 ^ (8 * j + 15) ≡ p * 32768 = pow-add 2 (8 * j) 15 ∙ ap (λ (m : ℕ). m * 32768) weight in
    let above : 8 * j + 7 < k = bits_above k (8 * j + 7) n small (omega (arith, low, least)) in
    let below : k ≤ 8 * j + 15 = bits_below k (8 * j + 15) n most (omega (arith, high, under)) in
    omega (arith, above, below)

number_least : (x y r p q : ℕ) → 0 < nine_bits x y → q ≡ p * 256 → p * 128 ≤ x * q + (y * p + r)
number_least zero y r p q some e = omega (arith, mul-le-mul_right {m = 128} {n = y} p (omega arith))
number_least (suc x) y r p q some e = omega (arith, mul-le-mul_right {m = 1} {n = suc x} q (omega arith))

number_under : (x y r p q : ℕ) → x < 128 → y < 256 → r < p → q ≡ p * 256 → x * q + (y * p + r) < p * 32768
number_under x y r p q hx hy hr e =
    omega (arith, mul-le-mul_right {m = x} {n = 127} q (omega arith), mul-le-mul_right {m = y} {n = 255} p (omega arith))

low_bits : (s : List ℕ) (k : ℕ) → IsOctets s → is_minimal s ≡ true → get_or s 0 0 < 128 → number s < 2 ^ k → 2 ^ k ≤ 2 * number s + 1 → k / 8 + 1 ≡ length s
low_bits [] k is e h small most = absurd cc
low_bits (x ∷ []) k is e h small most =
    let low : x < 128 = h in
    let few : k ≤ 7 = bits_below k 7 x (omega (arith, most)) (omega (arith, low)) in
    omega (arith, few)
low_bits (x ∷ y ∷ ys) k is e h small most =
    let some : 0 < nine_bits x y = omega (arith, (shortest_nine x y ys e).0) in
    let times : 256 ^ suc (length ys) ≡ 256 ^ length ys * 256 = pow-suc 256 (length ys) in
    let least : 256 ^ length ys * 128 ≤ number (x ∷ y ∷ ys) = number_least x y (number ys) (256 ^ length ys) (256 ^ suc (length ys)) some times in
    let under : number (x ∷ y ∷ ys) < 256 ^ length ys * 32768 = number_under x y (number ys) (256 ^ length ys) (256 ^ suc (length ys)) h is.1.0 (number_is_lt ys is.1.1) times in
    let bits : k / 8 ≡ length ys + 1 = bits_between k (length ys) (number (x ∷ y ∷ ys)) (256 ^ length ys) (weight_power (length ys)) least under small most in
    omega (arith, bits)

-- n, for both n and -n - 1
abbrev pub size_of : ℤ → ℕ
size_of (pos n) = n
size_of (negsuc n) = n

pub length_by_bits : (z : ℤ) (k n : ℕ) → size_of z ≡ n → n < 2 ^ k → 2 ^ k ≤ 2 * n + 1 → k / 8 + 1 ≡ length (integer_content z)
unfolding integer_content
length_by_bits z k n same small most =
    let c : List ℕ = integer_content z in
    let is : IsOctets c = IsOctets_integer_content z in
    let e : is_minimal c ≡ true = is_minimal_integer_content z in
    elim (cases_lt (get_or c 0 0) 128) [
      | inl h ↦
          let value : number c ≡ n = sym (ap size_of (signed_number_low c h)) ∙ ap size_of (signed_number_integer_content z) ∙ same in
          low_bits c k is e h (omega (arith, value, small)) (omega (arith, value, most))
      | inr h ↦
          let value : number (turned c) ≡ n = sym (ap size_of (signed_number_high c is h)) ∙ ap size_of (signed_number_integer_content z) ∙ same in
          low_bits (turned c) k (IsOctets_turned c) (is_minimal_turned c is e) (turned_low c is h) (omega (arith, value, small)) (omega (arith, value, most)) ∙ length_turned c
    ]

pub length_counted : (w : ℕ) (z : ℤ) (m n : ℕ) → size_of z ≡ n → n < 2 ^ w → m ≡ count_leading_zeros w n → (w - m) / 8 + 1 ≡ length (integer_content z)
length_counted w z m n same small e =
    let top = leading_length w n small in
    let bits : w - m ≡ top.0 = omega (arith, top.1, e) in
    ap (λ (k : ℕ). k / 8 + 1) bits ∙ length_by_bits z top.0 n same top.2 top.3

length_both : (m : ℕ) → length (integer_content (pos m)) ≡ length (integer_content (negsuc m))
unfolding integer_content
length_both m = sym (length_turned (with_sign (digits_of 256 m)))

pub length_low : (w : Width) (z : ℤ) (n : ℕ) → FitsSigned w z → n ≡ unsigned_abs (cast_signed w (cast_unsigned w z)) → pos 0 ≤ℤ z → length (integer_content (pos n)) ≡ length (integer_content z)
length_low w (pos m) n fits e h = ap (λ (k : ℕ). length (integer_content (pos k))) (e ∙ ap unsigned_abs (to_z-of_z w (pos m) fits))
length_low w (negsuc m) n fits e h = absurd (omega (arith, ints))

pub size_some : (w : Width) (z : ℤ) (n : ℕ) → FitsSigned w z → n ≡ unsigned_abs (cast_signed w (cast_unsigned w z)) → z <ℤ pos 0 → 0 < n
size_some w (pos m) n fits e h = absurd (omega (arith, ints))
size_some w (negsuc m) n fits e h =
    let same : n ≡ suc m = e ∙ ap unsigned_abs (to_z-of_z w (negsuc m) fits) in
    omega (arith, same)

pub length_high : (w : Width) (z : ℤ) (n : ℕ) → FitsSigned w z → n ≡ unsigned_abs (cast_signed w (cast_unsigned w z)) → z <ℤ pos 0 → length (integer_content (pos (n - 1))) ≡ length (integer_content z)
length_high w (pos m) n fits e h = absurd (omega (arith, ints))
length_high w (negsuc m) n fits e h =
    let same : n ≡ suc m = e ∙ ap unsigned_abs (to_z-of_z w (negsuc m) fits) in
    let less : n - 1 ≡ m = omega (arith, same) in
    ap (λ (k : ℕ). length (integer_content (pos k))) less ∙ length_both m

pub length_passed : (w : Width) (z : ℤ) (r : ℕ) → FitsSigned w z → r ≡ length (integer_content (cast_signed w (cast_unsigned w z))) → r ≡ length (integer_content z)
length_passed w z r fits e = e ∙ ap (λ (x : ℤ). length (integer_content x)) (to_z-of_z w z fits)

-- ---- the leading sign octets

number_zeros_append : (k : ℕ) (c : List ℕ) → number (replicate k 0 ++ c) ≡ number c
number_zeros_append zero c = refl
number_zeros_append (suc k) c = number_zero_cons (replicate k 0 ++ c) ∙ number_zeros_append k c

zeros_low : (k : ℕ) (c : List ℕ) → get_or c 0 0 < 128 → get_or (replicate k 0 ++ c) 0 0 < 128
zeros_low zero c h = h
zeros_low (suc k) c h = lit< tt

signed_number_zeros_append : (k : ℕ) (c : List ℕ) → get_or c 0 0 < 128 → signed_number (replicate k 0 ++ c) ≡ signed_number c
signed_number_zeros_append k c h = signed_number_low (replicate k 0 ++ c) (zeros_low k c h) ∙ ap pos (number_zeros_append k c) ∙ sym (signed_number_low c h)

turned_ones_append : (k : ℕ) (c : List ℕ) → turned (replicate k 255 ++ c) ≡ replicate k 0 ++ turned c
turned_ones_append zero c = refl
turned_ones_append (suc k) c = ap (λ (t : List ℕ). 0 ∷ t) (turned_ones_append k c)

ones_high : (k : ℕ) (c : List ℕ) → 128 ≤ get_or c 0 0 → 128 ≤ get_or (replicate k 255 ++ c) 0 0
ones_high zero c h = h
ones_high (suc k) c h = lit≤ tt

IsOctets_replicate_append : (k s : ℕ) (c : List ℕ) → s < 256 → IsOctets c → IsOctets (replicate k s ++ c)
IsOctets_replicate_append zero s c small is = is
IsOctets_replicate_append (suc k) s c small is = (small, IsOctets_replicate_append k s c small is)

signed_number_ones_append : (k : ℕ) (c : List ℕ) → IsOctets c → 128 ≤ get_or c 0 0 → signed_number (replicate k 255 ++ c) ≡ signed_number c
signed_number_ones_append k c is h =
    let same : number (turned (replicate k 255 ++ c)) ≡ number (turned c) = ap number (turned_ones_append k c) ∙ number_zeros_append k (turned c) in
    signed_number_high (replicate k 255 ++ c) (IsOctets_replicate_append k 255 c (lit< tt) is) (ones_high k c h) ∙ ap negsuc same ∙ sym (signed_number_high c is h)

-- ---- sixteen octets as a number

worth : (m x : ℕ) → byte_worth m x ≡ x * 256 ^ m
worth zero x = omega arith
worth (suc m) x = refl

joined : (a x p : ℕ) → a * (p * 256) + x * p ≡ (a * 256 + x) * p
joined a x p = grind arith

sum_front : (t : List ℕ) (n k : ℕ) → k < length t → k ≤ n → sum_through (λ i. byte_worth (n - i) (get_or t i 0)) k ≡ number (take (k + 1) t) * 256 ^ (n - k)
sum_front t n zero h le =
    let none : number (take 0 t) ≡ 0 = refl in
    let first : get_or t 0 0 ≡ number (take (0 + 1) t) = omega (arith, none, number_next t 0 h) in
    worth (n - 0) (get_or t 0 0) ∙ ap (λ (m : ℕ). m * 256 ^ (n - 0)) first
sum_front t n (suc k) h le =
    let last : k + 1 ≡ suc k = omega arith in
    let front : sum_through (λ i. byte_worth (n - i) (get_or t i 0)) k ≡ number (take (suc k) t) * 256 ^ (n - k) =
    sum_front t n k (omega (arith, h)) (omega (arith, le)) ∙ ap (λ (m : ℕ). number (take m t) * 256 ^ (n - k)) last in
    let less : n - k ≡ suc (n - suc k) = omega (arith, le) in
    let power : 256 ^ (n - k) ≡ 256 ^ (n - suc k) * 256 = ap (λ (m : ℕ). 256 ^ m) less ∙ pow-suc 256 (n - suc k) in
    let a : ℕ = number (take (suc k) t) in
    let x : ℕ = get_or t (suc k) 0 in
    let sum : sum_through (λ i. byte_worth (n - i) (get_or t i 0)) k ≡ a * (256 ^ (n - suc k) * 256) = front ∙ ap (λ (p : ℕ). a * p) power in
    ap (λ (m : ℕ). m + byte_worth (n - suc k) x) sum ∙ ap (λ (m : ℕ). a * (256 ^ (n - suc k) * 256) + m) (worth (n - suc k) x)
    ∙ joined a x (256 ^ (n - suc k)) ∙ ap (λ (m : ℕ). m * 256 ^ (n - suc k)) (number_next t (suc k) h)

from_be_bytes_sixteen_octets : (t : List ℕ) → length t ≡ 16 → from_be_bytes w128 t ≡ number t
from_be_bytes_sixteen_octets t l =
    let all : number (take 16 t) ≡ number t = ap number (take_all 16 t (omega (arith, l))) in
    let one : number (take 16 t) * 256 ^ 0 ≡ number (take 16 t) = omega arith in
    sum_front t 15 15 (omega (arith, l)) (omega arith) ∙ one ∙ all

low_half : (x r p : ℕ) → x < 128 → r < p → x * p + r < 128 * p
low_half x r p hx hr = omega (arith, mul-le-mul_right {m = x} {n = 127} p (omega arith))

sixteen_small : (t : List ℕ) → IsOctets t → length t ≡ 16 → get_or t 0 0 < 128 → number t < 2 ^ 127
sixteen_small [] is l h = absurd (omega (arith, l))
sixteen_small (x ∷ xs) is l h =
    let rest : length xs ≡ 15 = omega (arith, l) in
    let power : 256 ^ length xs ≡ 256 ^ 15 = ap (λ (k : ℕ). 256 ^ k) rest in
    let below : number (x ∷ xs) < 128 * 256 ^ length xs = low_half x (number xs) (256 ^ length xs) h (number_is_lt xs is.1) in
    omega (arith, below, power)

signed_sixteen : (t : List ℕ) → IsOctets t → length t ≡ 16 → cast_signed w128 (from_be_bytes w128 t) ≡ signed_number t
signed_sixteen t is l =
    elim (cases_lt (get_or t 0 0) 128) [
      | inl h ↦ ap (cast_signed w128) (from_be_bytes_sixteen_octets t l) ∙ to_z_pos w128 (number t) (sixteen_small t is l h) ∙ sym (signed_number_low t h)
      | inr h ↦
          let low : number (turned t) < 2 ^ 127 = sixteen_small (turned t) (IsOctets_turned t) (length_turned t ∙ l) (turned_low t is h) in
          let power : 256 ^ length t ≡ 2 ^ 128 = ap (λ (k : ℕ). 256 ^ k) l in
          let value : number t ≡ 2 ^ 128 - suc (number (turned t)) = omega (arith, number_turned t is, power) in
          ap (cast_signed w128) (from_be_bytes_sixteen_octets t l ∙ value) ∙ to_z-neg w128 (number (turned t)) low ∙ sym (signed_number_high t is h)
    ]

-- ---- contents octets at the end of an array of their sign

put_mid_end : (s n : ℕ) (ys : List ℕ) → n ≤ 16 → put_mid (16 - n) (16 - (16 - n)) (replicate 16 s) ys ≡ replicate (16 - n) s ++ ys
put_mid_end s n ys h =
    rw (take-replicate {X = ℕ} (16 - n) 16 s (omega arith), drop-replicate {X = ℕ} (16 - n) 16 s, drop_all {X = ℕ} (16 - (16 - n)) (replicate (16 - (16 - n)) s) (omega (arith, length-replicate {A = ℕ} (16 - (16 - n)) s)), append-nil) refl

sign_same : (k s : ℕ) (c : List ℕ) → IsOctets c → s ≡ (if leb 128 (get_or c 0 0) then 255 else 0) → (s < 256) × (signed_number (replicate k s ++ c) ≡ signed_number c)
sign_same k s c is e =
    let P : ℕ → Type 0 = λ x. (x < 256) × (signed_number (replicate k x ++ c) ≡ signed_number c) in
    elim (cases_lt (get_or c 0 0) 128) [
      | inl h ↦ subst P (sym (e ∙ ap (λ (b : Bool). if b then 255 else 0) (lt-leb 128 (get_or c 0 0) h))) (lit< tt, signed_number_zeros_append k c h)
      | inr h ↦ subst P (sym (e ∙ ap (λ (b : Bool). if b then 255 else 0) (le-leb 128 (get_or c 0 0) h))) (lit< tt, signed_number_ones_append k c is h)
    ]

pub signed_number_sign_extended : (s : ℕ) (c ys : List ℕ) (z : ℤ) → IsOctets c → length c ≤ 9 → s ≡ (if leb 128 (get_or c 0 0) then 255 else 0) → ys ≡ c →
    z ≡ cast_signed w128 (from_be_bytes w128 (put_mid (16 - length c) (16 - (16 - length c)) (replicate 16 s) ys)) → z ≡ signed_number c
signed_number_sign_extended s c ys z is few sign same value =
    let k : ℕ = 16 - length c in
    let filled = sign_same k s c is sign in
    let whole : put_mid (16 - length c) (16 - (16 - length c)) (replicate 16 s) ys ≡ replicate k s ++ c =
    put_mid_end s (length c) ys (omega (arith, few)) ∙ ap (λ (t : List ℕ). replicate k s ++ t) same in
    let size : length (replicate k s ++ c) ≡ 16 = omega (arith, few, length-append (replicate k s) c, length-replicate {A = ℕ} k s) in
    value ∙ ap (λ (t : List ℕ). cast_signed w128 (from_be_bytes w128 t)) whole ∙ signed_sixteen (replicate k s ++ c) (IsOctets_replicate_append k s c filled.0 is) size ∙ filled.1

-- ---- what reading rejects

pub read_sized_refused_contents : (low high : ℤ) (c : List ℕ) (f : ReadError) → is_minimal c ≡ false → f ≡ read_error InvalidValue → read_sized low high c ≡ Err f
read_sized_refused_contents low high c f e same = read_sized_not_minimal low high c e ∙ ap Err (sym same)

pub read_sized_refused_number : (low high : ℤ) (c : List ℕ) (f : ReadError) (b : Bool) → is_minimal c ≡ true → f ≡ read_error (if b then below low else IntegerOverflow) →
    (b ≡ true → signed_number c <ℤ low) → (b ≡ false → (low ≤ℤ signed_number c) × (high <ℤ signed_number c)) → read_sized low high c ≡ Err f
read_sized_refused_number low high c f true e same lower upper = read_sized_minimal low high c (Err f) e (within_range_below low high (signed_number c) (lower refl) ∙ ap Err (sym same))
read_sized_refused_number low high c f false e same lower upper = read_sized_minimal low high c (Err f) e (within_range_above low high (signed_number c) (upper refl).0 (upper refl).1 ∙ ap Err (sym same))

pub read_sized_ok : (low high : ℤ) (c : List ℕ) (z : ℤ) → is_minimal c ≡ true → z ≡ signed_number c → low ≤ℤ z → z ≤ℤ high → read_sized low high c ≡ Ok z
read_sized_ok low high c z e same a b = read_sized_minimal low high c (Ok z) e (ap (within_range low high) (sym same) ∙ within_range_ok low high z a b)

pub read_sized_too_long : (low high : ℤ) (c : List ℕ) (f : ReadError) → IsOctets c → is_minimal c ≡ true → 9 < length c → neg_ℤ (pos (2 ^ 71)) ≤ℤ low → high <ℤ pos (2 ^ 71) → low ≤ℤ high →
    f ≡ read_error (if leb 128 (get_or c 0 0) then below low else IntegerOverflow) → read_sized low high c ≡ Err f
read_sized_too_long low high c f is e long least greatest ordered same =
    read_sized_refused_number low high c f (leb 128 (get_or c 0 0)) e same
    (λ t. long_below c low is e long (leb-true 128 (get_or c 0 0) t) least)
    (λ t. let over : high <ℤ signed_number c = long_above c high e long (leb-false 128 (get_or c 0 0) t) greatest in (omega (arith, ints), over))

pub read_sized_out_of_range : (low high z : ℤ) (c : List ℕ) (f : ReadError) → is_minimal c ≡ true → z ≡ signed_number c → f ≡ read_error (if int_lt z low then below low else IntegerOverflow) →
    low ≤ℤ high → (z <ℤ low) ⊎ (high <ℤ z) → read_sized low high c ≡ Err f
read_sized_out_of_range low high z c f e value same ordered (inl h) =
    let test : int_lt z low ≡ true = grind (arith, ints) in
    read_sized_refused_number low high c f true e (same ∙ ap (λ (b : Bool). read_error (if b then below low else IntegerOverflow)) test) (λ t. subst (λ (x : ℤ). x <ℤ low) value h) (λ t. absurd cc)
read_sized_out_of_range low high z c f e value same ordered (inr h) =
    let test : int_lt z low ≡ false = grind (arith, ints) in
    let above : low ≤ℤ z = omega (arith, ints) in
    read_sized_refused_number low high c f false e (same ∙ ap (λ (b : Bool). read_error (if b then below low else IntegerOverflow)) test) (λ t. absurd cc) (λ t. subst (λ (x : ℤ). (low ≤ℤ x) × (high <ℤ x)) value (above, h))

pub to_be_bytes_cast_twice : (w : Width) (t : List ℕ) (z : ℤ) → FitsSigned w z → t ≡ to_be_bytes w (cast_unsigned w (cast_signed w (cast_unsigned w z))) → t ≡ to_be_bytes w (cast_unsigned w z)
to_be_bytes_cast_twice w t z fits e = e ∙ ap (λ (x : ℤ). to_be_bytes w (cast_unsigned w x)) (to_z-of_z w z fits)

octets_end : (t : List ℕ) (z : ℤ) → IsOctets t → 0 < length t → signed_number t ≡ z → EndsWithContent t (integer_content z)
octets_end t z is some e = subst (λ (x : ℤ). EndsWithContent t (integer_content x)) e (EndsWithContent_integer_content t is some)

pub EndsWithContent_eight_octets : (t : List ℕ) (z : ℤ) → FitsSigned w64 z → t ≡ to_be_bytes w64 (cast_unsigned w64 (cast_signed w64 (cast_unsigned w64 z))) → (length t ≡ 8) × EndsWithContent t (integer_content z)
EndsWithContent_eight_octets t z fits passed =
    let e = to_be_bytes_cast_twice w64 t z fits passed in
    let n : ℕ = cast_unsigned w64 z in
    let size : length t ≡ 8 = ap length e ∙ length_bytes_high_first 8 n in
    (size, octets_end t z (subst IsOctets (sym e) (IsOctets_bytes_high_first 8 n)) (omega (arith, size)) (ap signed_number e ∙ signed_number_eight_octets z fits))

pub EndsWithContent_sixteen_octets : (t : List ℕ) (z : ℤ) → FitsSigned w128 z → t ≡ to_be_bytes w128 (cast_unsigned w128 (cast_signed w128 (cast_unsigned w128 z))) → (length t ≡ 16) × EndsWithContent t (integer_content z)
EndsWithContent_sixteen_octets t z fits passed =
    let e = to_be_bytes_cast_twice w128 t z fits passed in
    let n : ℕ = cast_unsigned w128 z in
    let size : length t ≡ 16 = ap length e ∙ length_bytes_high_first 16 n in
    (size, octets_end t z (subst IsOctets (sym e) (IsOctets_bytes_high_first 16 n)) (omega (arith, size)) (ap signed_number e ∙ signed_number_sixteen_octets z fits))

drop_EndsWithContent : (t c : List ℕ) (count start : ℕ) → EndsWithContent t c → count ≡ length c → start ≡ length t - count → drop start t ≡ c
drop_EndsWithContent t c count start is size at = ap (λ (k : ℕ). drop k t) (at ∙ ap (λ (k : ℕ). length t - k) size) ∙ is.content

pub take_EndsWithContent : (t c : List ℕ) (count start more : ℕ) → EndsWithContent t c → count ≡ length c → start ≡ length t - count → more ≡ length t - start → take more (drop start t) ≡ c
take_EndsWithContent t c count start more is size at rest =
    let e = drop_EndsWithContent t c count start is size at in
    take_all more (drop start t) (omega (arith, ap length e, size, at, rest, is.fewer)) ∙ e
