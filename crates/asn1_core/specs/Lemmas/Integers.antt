-- Each number has one encoding in contents octets. The first nine bits tell whether octets are contents octets.
use Rattle.std.proofs.Common.{◌≡◌, ℕ, zero, suc, ◌+◌, ◌-◌, ◌*◌, ◌^◌, ◌<◌, ◌≤◌, ◌⊎◌, ◌↔◌, Bool, true, false, if◌then◌else◌, eqb, ◌||◌, List, [], ◌∷◌, length, get_or, Result, Ok, Err, IfErr, refl, sym, ap, subst, ◌∙◌, inl, inr, arith, lit<, lit≤}
use Rattle.std.specs.Prelude.{◌≢◌, ℤ, pos, negsuc, ◌-ℤ◌, ◌≤ℤ◌, ◌<ℤ◌, int_lt}
use Rattle.std.specs.Int.Digits.{digits_of}
use Rattle.std.proofs.lemmas.Int.{ints}
use Rattle.std.proofs.lemmas.Int.Digits.{number_digits_of, all_below_base_digits_of}
use Rattle.std.proofs.lemmas.Bool.{le-leb, lt-leb, ne_eqb, eqb-true, eqb-false, cases_lt, cases_Bool, or_parts, or_cases, not-true, not-false}
use Rattle.std.proofs.lemmas.List.{length-map}
use Rattle.std.proofs.Math.Nat.{pow-suc, add-mul}
use Rattle.asn1_core.specs.Base256.{IsOctets, number, signed_number}
use Rattle.asn1_core.specs.Integer.{IsIntegerContent, nine_bits, is_minimal, with_sign, turned, integer_content, read_integer, below, within_range, read_sized, unless_zero}
use Rattle.asn1_core.specs.Element.{◌>>=◌}
use Rattle.asn1_core.specs.ReadError.{ReadError, read_error, IsOfInput}
use Rattle.asn1_core.specs.Lemmas.Digits.{digits_of_number_from_digits, number_from_digits_256, Leads}
use Rattle.asn1_core.specs.Lemmas.Results.{done, done_injective, if_ok_is, bind_ok}
use Rattle.asn1_core.specs.Lemmas.Faults.{bind_errors, passed_errors, missed_errors}
use Rattle.asn1_core.specs.declared.parser.ParseErrorKind.TheVariants.{AllocationError, InvalidValue, IntegerOverflow}
use Rattle.asn1_core.specs.Lemmas.Lengths.{Leads_digits_of}

-- ---- each bit inverted

pub length_turned : (c : List ℕ) → length (turned c) ≡ length c
length_turned c = length-map c (λ x. 255 - x)

pub IsOctets_turned : (c : List ℕ) → IsOctets (turned c)
IsOctets_turned [] = tt
IsOctets_turned (x ∷ xs) = (omega arith, IsOctets_turned xs)

pub turned_turned : (c : List ℕ) → IsOctets c → turned (turned c) ≡ c
turned_turned [] is = refl
turned_turned (x ∷ xs) is =
    let head : 255 - (255 - x) ≡ x = omega (arith, is.0) in
    rw (head, turned_turned xs is.1) refl

parts_of : (a b p : ℕ) → a + b ≡ 255 → a * p + b * p ≡ 255 * p
parts_of a b p e = sym (add-mul a b p) ∙ ap (λ (k : ℕ). k * p) e

pub number_turned : (c : List ℕ) → IsOctets c → number (turned c) + number c + 1 ≡ 256 ^ length c
number_turned [] is = refl
number_turned (x ∷ xs) is =
    let rest : number (turned xs) + number xs + 1 ≡ 256 ^ length xs = number_turned xs is.1 in
    let sum : (255 - x) * 256 ^ length xs + x * 256 ^ length xs ≡ 255 * 256 ^ length xs = parts_of (255 - x) x (256 ^ length xs) (omega (arith, is.0)) in
    rw (pow-suc 256 (length xs), length_turned xs) (omega (arith, rest, sum))

pub turned_low : (c : List ℕ) → IsOctets c → 128 ≤ get_or c 0 0 → get_or (turned c) 0 0 < 128
turned_low [] is h = absurd (omega arith)
turned_low (x ∷ xs) is h = omega arith

-- a leading zero octet adds nothing
pub number_zero_cons : (c : List ℕ) → number (0 ∷ c) ≡ number c
number_zero_cons c = omega arith

-- ---- the signed number, by the top bit

pub signed_number_low : (c : List ℕ) → get_or c 0 0 < 128 → signed_number c ≡ pos (number c)
signed_number_low c h = rw (lt-leb 128 (get_or c 0 0) h) refl

less : (a b p : ℕ) → b + a + 1 ≡ p → pos a -ℤ pos p ≡ negsuc b
less a b p e = omega (arith, ints)

pub signed_number_high : (c : List ℕ) → IsOctets c → 128 ≤ get_or c 0 0 → signed_number c ≡ negsuc (number (turned c))
signed_number_high c is h = rw (le-leb 128 (get_or c 0 0) h) (less (number c) (number (turned c)) (256 ^ length c) (number_turned c is))

-- ---- the first nine bits

pub nine_shortest : (x y : ℕ) (ys : List ℕ) → 0 < nine_bits x y → nine_bits x y < 511 → is_minimal (x ∷ y ∷ ys) ≡ true
nine_shortest x y ys low high = rw (ne_eqb (nine_bits x y) 0 (λ e. omega arith), ne_eqb (nine_bits x y) 511 (λ e. omega arith)) refl

pub shortest_nine : (x y : ℕ) (ys : List ℕ) → is_minimal (x ∷ y ∷ ys) ≡ true → (nine_bits x y ≡ 0 → ⊥) × (nine_bits x y ≡ 511 → ⊥)
shortest_nine x y ys e =
    let none = or_parts (eqb (nine_bits x y) 0) (eqb (nine_bits x y) 511) (not-true (eqb (nine_bits x y) 0 || eqb (nine_bits x y) 511) e) in
    (eqb-false _ _ none.0, eqb-false _ _ none.1)

pub longer_nine : (x y : ℕ) (ys : List ℕ) → is_minimal (x ∷ y ∷ ys) ≡ false → (nine_bits x y ≡ 0) ⊎ (nine_bits x y ≡ 511)
longer_nine x y ys e =
    elim (or_cases (eqb (nine_bits x y) 0) (eqb (nine_bits x y) 511) (not-false (eqb (nine_bits x y) 0 || eqb (nine_bits x y) 511) e)) [
      | inl h ↦ inl (eqb-true _ _ h)
      | inr h ↦ inr (eqb-true _ _ h)
    ]

pub is_minimal_turned : (c : List ℕ) → IsOctets c → is_minimal c ≡ true → is_minimal (turned c) ≡ true
is_minimal_turned [] is e = e
is_minimal_turned (x ∷ []) is e = refl
is_minimal_turned (x ∷ y ∷ ys) is e =
    let h = shortest_nine x y ys e in
    let low : 0 < nine_bits x y = omega (arith, h.0) in
    let high : nine_bits x y < 511 = omega (arith, h.1, is.0, is.1.0) in
    nine_shortest (255 - x) (255 - y) (turned ys) (omega (arith, low, high, is.0, is.1.0)) (omega (arith, low, high, is.0, is.1.0))

-- an octet that the nine bits show superfluous can be dropped
same_low : (x y : ℕ) (ys : List ℕ) → x ≡ 0 → y < 128 → signed_number (x ∷ y ∷ ys) ≡ signed_number (y ∷ ys)
same_low x y ys e h =
    let first : x < 128 = omega arith in
    rw (lt-leb 128 x first, lt-leb 128 y h, e) (ap pos (number_zero_cons (y ∷ ys)))

pub signed_number_not_minimal : (x y : ℕ) (ys : List ℕ) → IsOctets (x ∷ y ∷ ys) → is_minimal (x ∷ y ∷ ys) ≡ false → signed_number (x ∷ y ∷ ys) ≡ signed_number (y ∷ ys)
signed_number_not_minimal x y ys is e =
    elim (longer_nine x y ys e) [
      | inl h ↦ same_low x y ys (omega arith) (omega arith)
      | inr h ↦
          let first : 255 - x ≡ 0 = omega (arith, is.0, is.1.0) in
          let same : number (turned (x ∷ y ∷ ys)) ≡ number (turned (y ∷ ys)) = rw first (number_zero_cons (turned (y ∷ ys))) in
          signed_number_high (x ∷ y ∷ ys) is (omega (arith, is.0, is.1.0)) ∙ ap negsuc same ∙ sym (signed_number_high (y ∷ ys) is.1 (omega (arith, is.0, is.1.0)))
    ]

-- ---- numbers that aren't negative

digits_of_number : (c : List ℕ) → IsOctets c → Leads c → digits_of 256 (number c) ≡ c
digits_of_number c is leads = ap (digits_of 256) (sym (number_from_digits_256 c)) ∙ digits_of_number_from_digits 256 c (lit≤ tt) is leads

with_sign_low : (x : ℕ) (xs : List ℕ) → x < 128 → with_sign (x ∷ xs) ≡ x ∷ xs
with_sign_low x xs h = rw (lt-leb 128 x h) refl

with_sign_high : (x : ℕ) (xs : List ℕ) → 128 ≤ x → with_sign (x ∷ xs) ≡ 0 ∷ x ∷ xs
with_sign_high x xs h = rw (le-leb 128 x h) refl

sign_only : (c : List ℕ) → IsOctets c → is_minimal c ≡ true → get_or c 0 0 < 128 → c ≡ with_sign (digits_of 256 (number c))
sign_only [] is e h = absurd cc
sign_only (zero ∷ []) is e h = refl
sign_only (zero ∷ y ∷ ys) is e h =
    let high : 128 ≤ y = omega (arith, (shortest_nine zero y ys e).0) in
    let same : digits_of 256 (number (zero ∷ y ∷ ys)) ≡ y ∷ ys = ap (digits_of 256) (number_zero_cons (y ∷ ys)) ∙ digits_of_number (y ∷ ys) is.1 (λ l. omega arith) in
    rw same (sym (with_sign_high y ys high))
sign_only (suc x ∷ xs) is e h =
    rw (digits_of_number (suc x ∷ xs) is (λ l. omega arith)) (sym (with_sign_low (suc x) xs h))

-- digits after a sign
record IsSigned (s : List ℕ) (n : ℕ) : Type 0 where
  octets : IsOctets s
  value : number s ≡ n
  low : get_or s 0 0 < 128
  shortest : is_minimal s ≡ true

low_shortest : (x : ℕ) (xs : List ℕ) → IsOctets (x ∷ xs) → 0 < x → x < 128 → is_minimal (x ∷ xs) ≡ true
low_shortest x [] is a b = refl
low_shortest x (y ∷ ys) is a b = nine_shortest x y ys (omega arith) (omega (arith, is.1.0))

signed_is : (ds : List ℕ) (n : ℕ) → IsOctets ds → Leads ds → number ds ≡ n → IsSigned (with_sign ds) n
signed_is [] n is leads e = record { octets = (lit< tt, tt); value = e; low = lit< tt; shortest = refl }
signed_is (x ∷ xs) n is leads e =
    let first : 0 < x = leads (omega arith) in
    let P : List ℕ → Type 0 = λ s. IsSigned s n in
    elim (cases_lt x 128) [
      | inl h ↦ subst P (sym (with_sign_low x xs h)) (record { octets = is; value = e; low = h; shortest = low_shortest x xs is first h })
      | inr h ↦ subst P (sym (with_sign_high x xs h)) (record { octets = (lit< tt, is); value = number_zero_cons (x ∷ xs) ∙ e; low = lit< tt; shortest = nine_shortest 0 x xs (omega arith) (omega (arith, is.0)) })
    ]

signed_digits : (n : ℕ) → IsSigned (with_sign (digits_of 256 n)) n
signed_digits n = signed_is (digits_of 256 n) n (all_below_base_digits_of 256 n (lit≤ tt)) (Leads_digits_of n) (sym (number_from_digits_256 (digits_of 256 n)) ∙ number_digits_of 256 n (lit≤ tt))

-- ---- every number

-- octets of which none is superfluous are the contents octets of their number
pub integer_content_only : (c : List ℕ) → IsOctets c → is_minimal c ≡ true → c ≡ integer_content (signed_number c)
unfolding integer_content
integer_content_only c is e =
    elim (cases_lt (get_or c 0 0) 128) [
      | inl h ↦ sign_only c is e h ∙ ap integer_content (sym (signed_number_low c h))
      | inr h ↦
          sym (turned_turned c is) ∙ ap turned (sign_only (turned c) (IsOctets_turned c) (is_minimal_turned c is e) (turned_low c is h)) ∙ ap integer_content (sym (signed_number_high c is h))
    ]

pub IsOctets_integer_content : (z : ℤ) → IsOctets (integer_content z)
unfolding integer_content
IsOctets_integer_content (pos n) = (signed_digits n).octets
IsOctets_integer_content (negsuc n) = IsOctets_turned (with_sign (digits_of 256 n))

pub is_minimal_integer_content : (z : ℤ) → is_minimal (integer_content z) ≡ true
unfolding integer_content
is_minimal_integer_content (pos n) = (signed_digits n).shortest
is_minimal_integer_content (negsuc n) = is_minimal_turned (with_sign (digits_of 256 n)) (signed_digits n).octets (signed_digits n).shortest

turned_high : (s : List ℕ) → 0 < length s → get_or s 0 0 < 128 → 128 ≤ get_or (turned s) 0 0
turned_high [] l h = absurd (omega arith)
turned_high (x ∷ xs) l h = omega arith

is_minimal_nonempty : (c : List ℕ) → is_minimal c ≡ true → 0 < length c
is_minimal_nonempty [] e = absurd cc
is_minimal_nonempty (x ∷ xs) e = omega arith

pub signed_number_integer_content : (z : ℤ) → signed_number (integer_content z) ≡ z
unfolding integer_content
signed_number_integer_content (pos n) = let s = signed_digits n in signed_number_low (with_sign (digits_of 256 n)) s.low ∙ ap pos s.value
signed_number_integer_content (negsuc n) =
    let s = signed_digits n in
    let ds = with_sign (digits_of 256 n) in
    signed_number_high (turned ds) (IsOctets_turned ds) (turned_high ds (is_minimal_nonempty ds s.shortest) s.low) ∙ ap (λ (t : List ℕ). negsuc (number t)) (turned_turned ds s.octets) ∙ ap negsuc s.value

-- ---- contents octets, and no fewer octets

-- octets without the superfluous ones
record Shortened (t : List ℕ) : Type 0 where
  encoding : List ℕ
  octets : IsOctets encoding
  shortest : is_minimal encoding ≡ true
  same : signed_number encoding ≡ signed_number t
  fewer : length encoding ≤ length t

shortened : (t : List ℕ) → IsOctets t → 0 < length t → Shortened t
shortened [] is l = absurd (omega arith)
shortened (x ∷ []) is l = record { encoding = x ∷ []; octets = is; shortest = refl; same = refl; fewer = omega arith }
shortened (x ∷ y ∷ ys) is l =
    elim (cases_Bool (is_minimal (x ∷ y ∷ ys))) [
      | inl e ↦ record { encoding = x ∷ y ∷ ys; octets = is; shortest = e; same = refl; fewer = omega arith }
      | inr e ↦
          let s = shortened (y ∷ ys) is.1 (omega arith) in
          record { encoding = s.encoding; octets = s.octets; shortest = s.shortest; same = s.same ∙ sym (signed_number_not_minimal x y ys is e); fewer = omega (arith, s.fewer) }
    ]

pub is_minimal_IsIntegerContent : (c : List ℕ) → IsOctets c → is_minimal c ≡ true → IsIntegerContent c (signed_number c)
is_minimal_IsIntegerContent c is e = record {
  octets = is;
  some = is_minimal_nonempty c e;
  value = refl;
  shortest = λ t octets some fewer same.
      let s = shortened t octets some in
      let one : s.encoding ≡ c = integer_content_only s.encoding s.octets s.shortest ∙ ap integer_content (s.same ∙ same) ∙ sym (integer_content_only c is e) in
      omega (arith, s.fewer, fewer, ap length one);
}

pub IsIntegerContent_integer_content : (z : ℤ) → IsIntegerContent (integer_content z) z
IsIntegerContent_integer_content z = subst (λ (x : ℤ). IsIntegerContent (integer_content z) x) (signed_number_integer_content z) (is_minimal_IsIntegerContent (integer_content z) (IsOctets_integer_content z) (is_minimal_integer_content z))

pub IsIntegerContent_is_minimal : (c : List ℕ) (z : ℤ) → IsIntegerContent c z → is_minimal c ≡ true
IsIntegerContent_is_minimal [] z is = absurd (omega (arith, is.some))
IsIntegerContent_is_minimal (x ∷ []) z is = refl
IsIntegerContent_is_minimal (x ∷ y ∷ ys) z is =
    elim (cases_Bool (is_minimal (x ∷ y ∷ ys))) [
      | inl e ↦ e
      | inr e ↦ absurd (is.shortest (y ∷ ys) is.octets.1 (omega arith) (omega arith) (sym (signed_number_not_minimal x y ys is.octets e) ∙ is.value))
    ]

pub IsIntegerContent_only : (c : List ℕ) (z : ℤ) → IsIntegerContent c z → c ≡ integer_content z
IsIntegerContent_only c z is = integer_content_only c is.octets (IsIntegerContent_is_minimal c z is) ∙ ap integer_content is.value

pub nine_bits_tell : (x y : ℕ) (ys : List ℕ) → IsOctets (x ∷ y ∷ ys) → (is_minimal (x ∷ y ∷ ys) ≡ false) ↔ (signed_number (x ∷ y ∷ ys) ≡ signed_number (y ∷ ys))
nine_bits_tell x y ys is = (
  signed_number_not_minimal x y ys is,
  λ same. elim (cases_Bool (is_minimal (x ∷ y ∷ ys))) [
    | inl e ↦ absurd ((is_minimal_IsIntegerContent (x ∷ y ∷ ys) is e).shortest (y ∷ ys) is.1 (omega arith) (omega arith) (sym same))
    | inr e ↦ e
  ],
)

-- ---- reading

pub read_integer_ok : (c : List ℕ) → is_minimal c ≡ true → read_integer c ≡ Ok (signed_number c)
unfolding read_integer
read_integer_ok c e = rw e refl

pub read_integer_is : (c : List ℕ) (z : ℤ) → read_integer c ≡ Ok z → (is_minimal c ≡ true) × (signed_number c ≡ z)
unfolding read_integer
read_integer_is c z e =
    let p = if_ok_is (is_minimal c) (Ok (signed_number c)) _ z e in
    (p.0, done_injective (signed_number c) z p.1)

pub reads_contents_alone : (c : List ℕ) (z : ℤ) → IsOctets c → (read_integer c ≡ Ok z) ↔ IsIntegerContent c z
reads_contents_alone c z is = (
  (λ e. let p = read_integer_is c z e in subst (λ (x : ℤ). IsIntegerContent c x) p.1 (is_minimal_IsIntegerContent c is p.0)),
  λ h. read_integer_ok c (IsIntegerContent_is_minimal c z h) ∙ ap Ok h.value,
)

-- ---- numbers of a range

-- a test with an error in its first branch
pub if_err_ok : {A : Type 0} (b : Bool) (d : ReadError) (x : Result A ReadError) (y : A) → (if b then Err d else x) ≡ Ok y → (b ≡ false) × (x ≡ Ok y)
if_err_ok true d x y e = absurd cc
if_err_ok false d x y e = (refl, e)

pub within_range_ok : (low high z : ℤ) → low ≤ℤ z → z ≤ℤ high → within_range low high z ≡ Ok z
within_range_ok low high z a b =
    let above : int_lt z low ≡ false = grind (arith, ints) in
    let below_high : int_lt high z ≡ false = grind (arith, ints) in
    rw (above, below_high) refl

pub within_range_below : (low high z : ℤ) → z <ℤ low → within_range low high z ≡ Err (read_error (below low))
within_range_below low high z a =
    let test : int_lt z low ≡ true = grind (arith, ints) in
    rw test refl

pub within_range_above : (low high z : ℤ) → low ≤ℤ z → high <ℤ z → within_range low high z ≡ Err (read_error IntegerOverflow)
within_range_above low high z a b =
    let above : int_lt z low ≡ false = grind (arith, ints) in
    let over : int_lt high z ≡ true = grind (arith, ints) in
    rw (above, over) refl

within_range_ok_is : (low high z m : ℤ) → within_range low high z ≡ Ok m → (z ≡ m) × ((low ≤ℤ m) × (m ≤ℤ high))
within_range_ok_is low high z m e =
    let first = if_err_ok (int_lt z low) (read_error (below low)) _ m e in
    let second = if_err_ok (int_lt high z) (read_error IntegerOverflow) (Ok z) m first.1 in
    let same : z ≡ m = done_injective z m second.1 in
    let above : low ≤ℤ z = let h = first.0 in omega (arith, ints) in
    let under : z ≤ℤ high = let h = second.0 in omega (arith, ints) in
    (same, subst (λ (x : ℤ). (low ≤ℤ x) × (x ≤ℤ high)) same (above, under))

pub read_sized_minimal : (low high : ℤ) (c : List ℕ) (r : Result ℤ ReadError) → is_minimal c ≡ true → within_range low high (signed_number c) ≡ r → read_sized low high c ≡ r
unfolding read_sized
read_sized_minimal low high c r e f = rw (read_integer_ok c e) f

pub read_sized_not_minimal : (low high : ℤ) (c : List ℕ) → is_minimal c ≡ false → read_sized low high c ≡ Err (read_error InvalidValue)
unfolding read_sized read_integer
read_sized_not_minimal low high c e = rw e refl

pub sized_consumes : (low high : ℤ) (c : List ℕ) (m : ℤ) → IsOctets c → read_sized low high c ≡ Ok m → (c ≡ integer_content m) × ((low ≤ℤ m) × (m ≤ℤ high))
unfolding read_sized
sized_consumes low high c m is e =
    let p = bind_ok (read_integer c) (within_range low high) m e in
    let q = read_integer_is c p.0 p.1 in
    let r = within_range_ok_is low high p.0 m p.2 in
    (integer_content_only c is q.0 ∙ ap integer_content (q.1 ∙ r.0), r.1)

pub sized_read_back : (low high : ℤ) (m : ℤ) → (low ≤ℤ m) × (m ≤ℤ high) → read_sized low high (integer_content m) ≡ Ok m
sized_read_back low high m range = read_sized_minimal low high (integer_content m) (Ok m) (is_minimal_integer_content m) (ap (within_range low high) (signed_number_integer_content m) ∙ within_range_ok low high m range.0 range.1)

-- ---- no error is `AllocationError`

pub integer_errors : (c : List ℕ) → IfErr (read_integer c) IsOfInput
unfolding read_integer
integer_errors c = passed_errors (is_minimal c) (Ok (signed_number c)) InvalidValue tt (λ e. cc)

below_kind : (low : ℤ) → below low ≡ AllocationError → ⊥
below_kind (pos n) = λ e. cc
below_kind (negsuc n) = λ e. cc

pub sized_errors : (low high : ℤ) (c : List ℕ) → IfErr (read_sized low high c) IsOfInput
unfolding read_sized
sized_errors low high c = bind_errors (read_integer c) (within_range low high) (integer_errors c) (λ z. missed_errors (int_lt z low) (below low) _ (below_kind low) (missed_errors (int_lt high z) IntegerOverflow (Ok z) (λ e. cc) tt))

-- ---- the same without 0

some_number : (n : ℕ) → pos (suc n) ≡ pos 0 → ⊥
some_number n e = cc

negative_number : (n : ℕ) → negsuc n ≡ pos 0 → ⊥
negative_number n e = cc

unless_zero_is : (z m : ℤ) → unless_zero z ≡ Ok m → (z ≡ m) × (m ≡ pos 0 → ⊥)
unless_zero_is (pos zero) m e = absurd cc
unless_zero_is (pos (suc n)) m e = let same : pos (suc n) ≡ m = done_injective _ _ e in (same, λ none. absurd (some_number n (same ∙ none)))
unless_zero_is (negsuc n) m e = let same : negsuc n ≡ m = done_injective _ _ e in (same, λ none. absurd (negative_number n (same ∙ none)))

kept_unless_zero : (m : ℤ) → (m ≡ pos 0 → ⊥) → unless_zero m ≡ Ok m
kept_unless_zero (pos zero) some = absurd (some refl)
kept_unless_zero (pos (suc n)) some = refl
kept_unless_zero (negsuc n) some = refl

zero_errors : (z : ℤ) → IfErr (unless_zero z) IsOfInput
zero_errors (pos zero) = λ e. cc
zero_errors (pos (suc n)) = tt
zero_errors (negsuc n) = tt

pub non_zero_consumes : (low high : ℤ) (c : List ℕ) (m : ℤ) → IsOctets c → (read_sized low high c >>= unless_zero) ≡ Ok m → (c ≡ integer_content m) × (((low ≤ℤ m) × (m ≤ℤ high)) × (m ≢ pos 0))
non_zero_consumes low high c m is e =
    let p = bind_ok (read_sized low high c) unless_zero m e in
    let q = unless_zero_is p.0 m p.2 in
    let got = sized_consumes low high c m is (p.1 ∙ ap done q.0) in
    (got.0, (got.1, q.1))

pub non_zero_read_back : (low high : ℤ) (m : ℤ) → (low ≤ℤ m) × (m ≤ℤ high) → m ≢ pos 0 → (read_sized low high (integer_content m) >>= unless_zero) ≡ Ok m
non_zero_read_back low high m within some = ap (λ (r : Result ℤ ReadError). r >>= unless_zero) (sized_read_back low high m within) ∙ kept_unless_zero m some

pub non_zero_errors : (low high : ℤ) (c : List ℕ) → IfErr (read_sized low high c >>= unless_zero) IsOfInput
non_zero_errors low high c = bind_errors (read_sized low high c) unless_zero (sized_errors low high c) zero_errors
