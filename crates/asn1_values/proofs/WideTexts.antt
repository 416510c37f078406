-- Units of two octets, from a position in the octets on.
use Rattle.std.specs.Char.Utf16.{has_unpaired_surrogate, utf16_chars, lone_unit_char}
use Rattle.std.specs.List.{list_any}
use Rattle.std.proofs.lemmas.Bool.{and_left, and_right, and_from, lt-ltb, le-ltb, le-leb, lt-leb, eq-eqb}
use Rattle.std.proofs.Math.Seq.{drop-length}
use Rattle.std.proofs.lemmas.List.{drop_more, length-drop}
use Rattle.std.proofs.lemmas.Str.{utf16_chars-nil, utf16_chars_lone, utf16_chars_pair}
use Rattle.asn1_core.specs.Base256.{number}
use Rattle.asn1_values.specs.Texts.{pairs, is_paired, is_utf16_text}
use Rattle.std.proofs.Common.{◌≡◌, ◌∙◌, ℕ, ◌+◌, ◌-◌, ◌*◌, ◌%◌, ◌<◌, ◌≤◌, ◌⊎◌, inl, inr, Bool, true, false, not, if◌then◌else◌, nat_eq, nat_le, nat_lt, is_some, List, [], ◌∷◌, length, get_or, drop, Option, Some, None, refl, sym, ap, arith}

-- ---- units

-- a high surrogate, then a low one
abbrev pub IsPair : ℕ → ℕ → Type 0
IsPair u v = (0xD800 ≤ u) × (u < 0xDC00) × (0xDC00 ≤ v) × (v < 0xE000)

lone_is_char : (u : ℕ) → (u < 0xD800) ⊎ (0xE000 ≤ u) → lone_unit_char u ≡ Some u
lone_is_char u (inl low) = ap (λ (b : Bool). if b then None else Some u) (and_left (nat_le 0xD800 u) (nat_lt u 0xE000) (lt-leb 0xD800 u low))
lone_is_char u (inr high) = ap (λ (b : Bool). if b then None else Some u) (and_right (nat_le 0xD800 u) (nat_lt u 0xE000) (le-ltb u 0xE000 high))

lone_is_none : (u : ℕ) → 0xD800 ≤ u → u < 0xE000 → lone_unit_char u ≡ None
lone_is_none u low high = ap (λ (b : Bool). if b then None else Some u) (and_from (nat_le 0xD800 u) (nat_lt u 0xE000) (le-leb 0xD800 u low) (lt-ltb u 0xE000 high))

-- each surrogate has its partner among these characters
abbrev all_chars : List (Option ℕ) → Bool
all_chars chars = not (list_any (λ o. not (is_some o)) chars)

has_unpaired_surrogate_plain : (u : ℕ) (us : List ℕ) → (u < 0xD800) ⊎ (0xE000 ≤ u) → not (has_unpaired_surrogate (u ∷ us)) ≡ not (has_unpaired_surrogate us)
has_unpaired_surrogate_plain u us (inl h) = ap all_chars (utf16_chars_lone u us (λ p. omega (arith, h, p.0)) ∙ ap (λ (o : Option ℕ). o ∷ utf16_chars us) (lone_is_char u (inl h)))
has_unpaired_surrogate_plain u us (inr h) = ap all_chars (utf16_chars_lone u us (λ p. omega (arith, h, p.1)) ∙ ap (λ (o : Option ℕ). o ∷ utf16_chars us) (lone_is_char u (inr h)))

has_unpaired_surrogate_pair : (u v : ℕ) (us : List ℕ) → IsPair u v → not (has_unpaired_surrogate (u ∷ v ∷ us)) ≡ not (has_unpaired_surrogate us)
has_unpaired_surrogate_pair u v us p = ap all_chars (utf16_chars_pair u v us p)

has_unpaired_surrogate_lone : (u : ℕ) (us : List ℕ) → 0xD800 ≤ u → u < 0xE000 → (IsPair u (get_or us 0 0) → ⊥) → not (has_unpaired_surrogate (u ∷ us)) ≡ false
has_unpaired_surrogate_lone u us low high none = ap all_chars (utf16_chars_lone u us none ∙ ap (λ (o : Option ℕ). o ∷ utf16_chars us) (lone_is_none u low high))

-- ---- units at a position

abbrev unit : List ℕ → ℕ → ℕ
unit c i = number (get_or c i 0 ∷ get_or c (i + 1) 0 ∷ [])

number_two_octets : (a b : ℕ) → number (a ∷ b ∷ []) ≡ a * 256 + b
number_two_octets a b = omega arith

pairs_at : (c : List ℕ) (i : ℕ) → i + 2 ≤ length c → pairs (drop i c) ≡ unit c i ∷ pairs (drop (i + 2) c)
pairs_at c i h =
    let one = drop_more c i 0 (omega (arith, h)) in
    let two = drop_more c (i + 1) 0 (omega (arith, h)) in
    let place : i + 1 + 1 ≡ i + 2 = omega arith in
    ap pairs (one ∙ ap (λ (t : List ℕ). get_or c i 0 ∷ t) two) ∙ ap (λ (k : ℕ). unit c i ∷ pairs (drop k c)) place

pairs_short : (c : List ℕ) → length c < 2 → pairs c ≡ []
pairs_short [] h = refl
pairs_short (a ∷ []) h = refl
pairs_short (a ∷ b ∷ c) h = absurd (omega (arith, h))

abbrev whole : List ℕ → Bool
whole units = not (has_unpaired_surrogate units)

pub is_paired_plain_unit : (c : List ℕ) (i : ℕ) → i + 2 ≤ length c → get_or c (i + 1) 0 < 256 → (get_or c i 0 < 0xd8) ⊎ (0xdf < get_or c i 0) → is_paired (drop i c) ≡ is_paired (drop (i + 2) c)
is_paired_plain_unit c i h b (inl low) = ap whole (pairs_at c i h) ∙ has_unpaired_surrogate_plain (unit c i) _ (inl (omega (arith, number_two_octets (get_or c i 0) (get_or c (i + 1) 0), b, low)))
is_paired_plain_unit c i h b (inr high) = ap whole (pairs_at c i h) ∙ has_unpaired_surrogate_plain (unit c i) _ (inr (omega (arith, number_two_octets (get_or c i 0) (get_or c (i + 1) 0), b, high)))

pub is_paired_pair : (c : List ℕ) (i : ℕ) → i + 4 ≤ length c → get_or c (i + 1) 0 < 256 → get_or c (i + 2 + 1) 0 < 256 →
    0xd8 ≤ get_or c i 0 → get_or c i 0 < 0xdc → 0xdc ≤ get_or c (i + 2) 0 → get_or c (i + 2) 0 ≤ 0xdf → is_paired (drop i c) ≡ is_paired (drop (i + 4) c)
is_paired_pair c i h b d high-from high-to low-from low-to =
    let u-is = number_two_octets (get_or c i 0) (get_or c (i + 1) 0) in
    let v-is = number_two_octets (get_or c (i + 2) 0) (get_or c (i + 2 + 1) 0) in
    let is : IsPair (unit c i) (unit c (i + 2)) = (omega (arith, u-is, high-from), omega (arith, u-is, b, high-to), omega (arith, v-is, low-from), omega (arith, v-is, d, low-to)) in
    let place : i + 2 + 2 ≡ i + 4 = omega arith in
    ap whole (pairs_at c i (omega (arith, h)) ∙ ap (λ (t : List ℕ). unit c i ∷ t) (pairs_at c (i + 2) (omega (arith, h)))) ∙ has_unpaired_surrogate_pair (unit c i) (unit c (i + 2)) (pairs (drop (i + 2 + 2) c)) is ∙ ap (λ (k : ℕ). is_paired (drop k c)) place

pub is_paired_lone_unit : (c : List ℕ) (i : ℕ) → i + 2 ≤ length c → get_or c (i + 1) 0 < 256 → 0xd8 ≤ get_or c i 0 → get_or c i 0 ≤ 0xdf →
    (IsPair (unit c i) (get_or (pairs (drop (i + 2) c)) 0 0) → ⊥) → is_paired (drop i c) ≡ false
is_paired_lone_unit c i h b from to none =
    let u-is = number_two_octets (get_or c i 0) (get_or c (i + 1) 0) in
    ap whole (pairs_at c i h) ∙ has_unpaired_surrogate_lone (unit c i) _ (omega (arith, u-is, from)) (omega (arith, u-is, b, to)) none

-- the reasons why a unit isn't the first of a pair
pub not_IsPair_high : (c : List ℕ) (i v : ℕ) → 0xdb < get_or c i 0 → IsPair (unit c i) v → ⊥
not_IsPair_high c i v h p = omega (arith, number_two_octets (get_or c i 0) (get_or c (i + 1) 0), h, p.1)

pub not_IsPair_end : (c : List ℕ) (i u : ℕ) → length c - i < 4 → IsPair u (get_or (pairs (drop (i + 2) c)) 0 0) → ⊥
not_IsPair_end c i u h p =
    let short : length (drop (i + 2) c) < 2 = omega (arith, h, length-drop (i + 2) c) in
    let zero-is : get_or (pairs (drop (i + 2) c)) 0 0 ≡ 0 = ap (λ (t : List ℕ). get_or t 0 0) (pairs_short (drop (i + 2) c) short) in
    omega (arith, zero-is, p.2)

pub not_IsPair_low : (c : List ℕ) (i u : ℕ) → i + 4 ≤ length c → get_or c (i + 2 + 1) 0 < 256 → (get_or c (i + 2) 0 < 0xdc) ⊎ (0xdf < get_or c (i + 2) 0) → IsPair u (get_or (pairs (drop (i + 2) c)) 0 0) → ⊥
not_IsPair_low c i u h d out p =
    let is : get_or (pairs (drop (i + 2) c)) 0 0 ≡ unit c (i + 2) = ap (λ (t : List ℕ). get_or t 0 0) (pairs_at c (i + 2) (omega (arith, h))) in
    let v-is = number_two_octets (get_or c (i + 2) 0) (get_or c (i + 2 + 1) 0) in
    elim out [ inl below ↦ omega (arith, is, v-is, d, below, p.2) | inr above ↦ omega (arith, is, v-is, above, p.3) ]

-- ---- the end of the octets

drop_at_end : (c : List ℕ) (i : ℕ) → i ≤ length c → length c ≤ i → drop i c ≡ []
drop_at_end c i h end =
    let same : i ≡ length c = omega (arith, h, end) in
    ap (λ (k : ℕ). drop k c) same ∙ drop-length c

pub is_utf16_text_is_paired : (c : List ℕ) (i : ℕ) → length c % 2 ≡ 0 → i ≤ length c → length c ≤ i → is_paired (drop i c) ≡ is_paired c → true ≡ is_utf16_text c
is_utf16_text_is_paired c i even h end same = sym (and_from (nat_eq (length c % 2) 0) (is_paired c) (eq-eqb _ _ even) (sym same ∙ ap is_paired (drop_at_end c i h end) ∙ ap all_chars utf16_chars-nil))
