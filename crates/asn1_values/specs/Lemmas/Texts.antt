-- Character strings: only contents octets are read, and all of them are.
use Rattle.std.specs.Char.{is_ascii, is_ascii_alphanumeric}
use Rattle.std.specs.Int.{is_in_range}
use Rattle.std.specs.List.{list_any, list_all}
use Rattle.std.specs.Str.{is_utf8, IsNotAscii}
use Rattle.std.proofs.lemmas.Bool.{and_parts, cases_Bool, cases_eq, or_cases, lt-ltb, ltb-true, leb-true, eqb-true, true≢false}
use Rattle.std.proofs.lemmas.Str.{IsUtf8-from_ascii, IsUtf8-from_is_utf8, is_utf8-from_IsUtf8}
use Rattle.asn1_core.specs.declared.parser.ParseErrorKind.TheVariants.{InvalidValue}
use Rattle.asn1_core.specs.ReadError.{ReadError, read_error, IsOfInput}
use Rattle.asn1_core.specs.Base256.{IsOctets}
use Rattle.asn1_core.specs.Lemmas.Faults.{passed_errors}
use Rattle.asn1_core.specs.Lemmas.Results.{done_injective, if_ok_is}
use Rattle.asn1_values.specs.Texts.{IsTextOf, read_text, is_printable, is_printable_text, is_ia5_text, is_visible_text, is_utf8_text}
use Rattle.std.proofs.Common.{◌≡◌, ◌∙◌, ℕ, zero, suc, ◌+◌, ◌-◌, ◌<◌, ◌≤◌, ◌/◌, ◌%◌, ◌^◌, Bool, true, false, if◌then◌else◌, not, ◌&&◌, ◌||◌, eqb, nat_eq, codes, List, [], ◌∷◌, Ok, Err, IfErr, IsUtf8, IsAscii, MatchBool, refl, sym, ap, subst, inl, inr, arith}

pub text_consumes : (rule : List ℕ → Bool) (c t : List ℕ) → IsOctets c → read_text rule c ≡ Ok t → (c ≡ t) × IsTextOf rule t
text_consumes rule c t is e =
    let p = if_ok_is (rule c) (Ok c) _ t e in
    let same : c ≡ t = done_injective _ _ p.1 in (same, subst (IsTextOf rule) same p.0)

pub text_read_back : (rule : List ℕ → Bool) (t : List ℕ) → IsTextOf rule t → read_text rule t ≡ Ok t
text_read_back rule t h = rw h refl

pub text_errors : (rule : List ℕ → Bool) (c : List ℕ) → IfErr (read_text rule c) IsOfInput
text_errors rule c = passed_errors (rule c) (Ok c) InvalidValue tt (λ e. cc)

-- ---- what reading returns

pub read_text_ok : (rule : List ℕ → Bool) (c t : List ℕ) → IsTextOf rule c → t ≡ c → read_text rule c ≡ Ok t
read_text_ok rule c t h e = rw h (ap Ok (sym e))

pub read_text_err : (rule : List ℕ → Bool) (c : List ℕ) (f : ReadError) → rule c ≡ false → f ≡ read_error InvalidValue → read_text rule c ≡ Err f
read_text_err rule c f h e = rw h (ap Err (sym e))

-- ---- ASCII

-- octets that each pass a test that only ASCII passes
pub all_are_ascii : (p : ℕ → Bool) → ((x : ℕ) → p x ≡ true → x < 128) → (c : List ℕ) → list_all p c ≡ true → IsAscii c
all_are_ascii p law [] h i = omega arith
all_are_ascii p law (x ∷ c) h zero = law x (and_parts _ _ h).0
all_are_ascii p law (x ∷ c) h (suc i) = all_are_ascii p law c (and_parts _ _ h).1 i

IsAscii_is_ia5_text : (c : List ℕ) → IsAscii c → is_ia5_text c ≡ true
IsAscii_is_ia5_text [] h = refl
IsAscii_is_ia5_text (x ∷ c) h =
    let low : is_ascii x ≡ true = lt-ltb x 128 (h 0) in
    let rest : is_ia5_text c ≡ true = IsAscii_is_ia5_text c (λ i. h (suc i)) in
    rw (low, rest) refl

pub ascii_decided : (b : Bool) (c : List ℕ) → MatchBool b (IsAscii c) (IsNotAscii c) → b ≡ is_ia5_text c
ascii_decided true c h = sym (IsAscii_is_ia5_text c h)
ascii_decided false c (i, h) = elim (cases_Bool (is_ia5_text c)) [
  | inl t ↦ let low = all_are_ascii is_ascii (λ x e. ltb-true x 128 e) c t i in absurd (omega (arith, h, low))
  | inr f ↦ sym f
]

range_end : (first last x : ℕ) → is_in_range first last x ≡ true → x ≤ last
range_end first last x e = leb-true x last (and_parts _ _ e).1

visible_is_ascii : (x : ℕ) → is_in_range 0x20 0x7e x ≡ true → x < 128
visible_is_ascii x e = omega (arith, range_end 0x20 0x7e x e)

any_is_ascii : (x : ℕ) (c : List ℕ) → is_ia5_text c ≡ true → list_any (nat_eq x) c ≡ true → x < 128
any_is_ascii x [] low e = absurd (true≢false (sym e))
any_is_ascii x (y ∷ c) low e = elim (or_cases (nat_eq x y) _ e) [
  | inl same ↦ omega (arith, eqb-true x y same, ltb-true y 128 (and_parts _ _ low).0)
  | inr rest ↦ any_is_ascii x c (and_parts _ _ low).1 rest
]

printable_is_ascii : (x : ℕ) → is_printable x ≡ true → x < 128
printable_is_ascii x e = elim (or_cases (is_ascii_alphanumeric x) _ e) [
  | inl range ↦ elim (or_cases (is_in_range 48 57 x || is_in_range 65 90 x) _ range) [
    | inl low ↦ elim (or_cases (is_in_range 48 57 x) _ low) [
      | inl digit ↦ omega (arith, range_end 48 57 x digit)
      | inr upper ↦ omega (arith, range_end 65 90 x upper)
    ]
    | inr lower ↦ omega (arith, range_end 97 122 x lower)
  ]
  | inr other ↦ any_is_ascii x (codes " '()+,-./:=?") refl other
]

pub ia5_utf8 : (c : List ℕ) → is_ia5_text c ≡ true → IsUtf8 c
ia5_utf8 c e = IsUtf8-from_ascii c (all_are_ascii is_ascii (λ x h. ltb-true x 128 h) c e)

pub printable_utf8 : (c : List ℕ) → is_printable_text c ≡ true → IsUtf8 c
printable_utf8 c e = IsUtf8-from_ascii c (all_are_ascii is_printable printable_is_ascii c e)

pub visible_utf8 : (c : List ℕ) → is_visible_text c ≡ true → IsUtf8 c
visible_utf8 c e = IsUtf8-from_ascii c (all_are_ascii (is_in_range 0x20 0x7e) visible_is_ascii c e)

-- ---- characters by a bit each

-- a test passes below a number
unfoldable pub below : (ℕ → Bool) → ℕ → Bool
below p zero = true
below p (suc n) = p n && below p n

pub below_is : (p : ℕ → Bool) (n k : ℕ) → below p n ≡ true → k < n → p k ≡ true
unfolding below
below_is p zero k e h = absurd (omega (arith, h))
below_is p (suc n) k e h = elim (cases_eq k n) [
  | inl same ↦ subst (λ (x : ℕ). p x ≡ true) (sym same) (and_parts _ _ e).0
  | inr apart ↦ below_is p n k (and_parts _ _ e).1 (omega (arith, h, apart))
]

if_not_eq : (a b : Bool) → (if a then b else not b) ≡ true → a ≡ b
if_not_eq true true e = refl
if_not_eq false false e = refl
if_not_eq true false e = absurd (true≢false (sym e))
if_not_eq false true e = absurd (true≢false (sym e))

-- the bit of a mask at a position
abbrev bit_of : ℕ → ℕ → Bool
bit_of mask k = eqb (mask / 2 ^ (k % 64) % 2) 1

abbrev is_right_bit : ℕ → ℕ → ℕ → Bool
is_right_bit mask first k = if bit_of mask k then is_printable (first + k) else not (is_printable (first + k))

low_agree : below (is_right_bit 0xa7fffb8100000000 0) 64 ≡ true
unfolding below
low_agree = refl

high_agree : below (is_right_bit 0x07fffffe07fffffe 64) 64 ≡ true
unfolding below
high_agree = refl

-- the bits of the masks, below 64 and from 64 on, are those of printable characters
pub low_printable : (k : ℕ) → k < 64 → bit_of 0xa7fffb8100000000 k ≡ is_printable k
low_printable k h =
    let at : 0 + k ≡ k = omega arith in
    if_not_eq _ _ (below_is (is_right_bit 0xa7fffb8100000000 0) 64 k low_agree h) ∙ ap is_printable at

pub high_printable : (k : ℕ) → 64 ≤ k → k < 128 → bit_of 0x07fffffe07fffffe k ≡ is_printable k
high_printable k h few =
    let at : 64 + (k - 64) ≡ k = omega (arith, h) in
    let same : (k - 64) % 64 ≡ k % 64 = omega (arith, h, few) in
    let agree = if_not_eq _ _ (below_is (is_right_bit 0x07fffffe07fffffe 64) 64 (k - 64) high_agree (omega (arith, few))) in
    ap (λ (j : ℕ). eqb (0x07fffffe07fffffe / 2 ^ j % 2) 1) (sym same) ∙ agree ∙ ap is_printable at

-- ---- UTF-8

pub IsUtf8_is_utf8_text : (c : List ℕ) → IsUtf8 c → is_utf8_text c ≡ true
IsUtf8_is_utf8_text c h = is_utf8-from_IsUtf8 c h

pub not_IsUtf8_is_utf8_text : (c : List ℕ) → (IsUtf8 c → ⊥) → is_utf8_text c ≡ false
not_IsUtf8_is_utf8_text c h = elim (cases_Bool (is_utf8 c)) [ inl t ↦ absurd (h (IsUtf8-from_is_utf8 c t)) | inr f ↦ f ]
