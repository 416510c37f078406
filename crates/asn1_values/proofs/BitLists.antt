-- Bit strings as lists of bits.
use Rattle.std.proofs.lemmas.Bool.{and_parts, cases_Bool, lt-ltb, le-ltb, le-leb, ltb-true, ltb-false, leb-true, eqb-true, eqb-false, eq-eqb, ne_eqb}
use Rattle.std.proofs.lemmas.List.{get_or_past}
use Rattle.asn1_core.specs.Base256.{IsOctets}
use Rattle.asn1_values.specs.Bits.{Bits, is_padded, bits, has_bit, bit_at, octet_bits, all_bits, IsBitsOf, BitsAreAList, OneBitString, SetBits, FilledOctetsAreBits, EachListHasBits}
use Rattle.std.proofs.Common.{◌≡◌, ◌∙◌, ℕ, zero, suc, ◌+◌, ◌-◌, ◌*◌, ◌/◌, ◌%◌, ◌^◌, ◌<◌, ◌≤◌, inl, inr, Bool, true, false, if◌then◌else◌, ◌&&◌, eqb, nat_eq, nat_lt, nat_le, List, [], ◌∷◌, ◌++◌, length, replicate, take, get_or, slice_index, refl, sym, ap, arith}
use Rattle.asn1_values.specs.Lemmas.Texts.{below, below_is}

-- ---- which bit is set

-- the same as `has_bit`, for octets
abbrev is_set : List ℕ → ℕ → Bool
is_set octets n = nat_lt (n / 8) (length octets) && nat_eq (slice_index octets (n / 8) / 2 ^ (7 - n % 8) % 2) 1

is_set_first_octet : (o : ℕ) (os : List ℕ) (n : ℕ) → n < 8 → is_set (o ∷ os) n ≡ bit_at o n
is_set_first_octet o os n h =
    let q : n / 8 ≡ 0 = omega (arith, h) in
    let r : n % 8 ≡ n = omega (arith, h) in
    let inside : nat_lt 0 (length (o ∷ os)) ≡ true = lt-ltb 0 (length (o ∷ os)) (omega arith) in
    ap (λ (k : ℕ). nat_lt k (length (o ∷ os)) && nat_eq (slice_index (o ∷ os) k / 2 ^ (7 - n % 8) % 2) 1) q
    ∙ ap (λ (k : ℕ). nat_lt 0 (length (o ∷ os)) && nat_eq (o / 2 ^ (7 - k) % 2) 1) r
    ∙ ap (λ (b : Bool). b && bit_at o n) inside

lt_suc : (a b : ℕ) → nat_lt (suc a) (suc b) ≡ nat_lt a b
lt_suc a b = elim (cases_Bool (nat_lt a b)) [
  | inl t ↦ lt-ltb (suc a) (suc b) (omega (arith, ltb-true a b t)) ∙ sym t
  | inr f ↦ le-ltb (suc a) (suc b) (omega (arith, ltb-false a b f)) ∙ sym f
]

is_set_next_octet : (o : ℕ) (os : List ℕ) (m : ℕ) → is_set (o ∷ os) (suc (suc (suc (suc (suc (suc (suc (suc m)))))))) ≡ is_set os m
is_set_next_octet o os m =
    let q : (suc (suc (suc (suc (suc (suc (suc (suc m)))))))) / 8 ≡ suc (m / 8) = omega arith in
    let r : (suc (suc (suc (suc (suc (suc (suc (suc m)))))))) % 8 ≡ m % 8 = omega arith in
    ap (λ (k : ℕ). nat_lt k (length (o ∷ os)) && nat_eq (slice_index (o ∷ os) k / 2 ^ (7 - (suc (suc (suc (suc (suc (suc (suc (suc m)))))))) % 8) % 2) 1) q
    ∙ ap (λ (k : ℕ). nat_lt (suc (m / 8)) (length (o ∷ os)) && nat_eq (slice_index os (m / 8) / 2 ^ (7 - k) % 2) 1) r
    ∙ ap (λ (b : Bool). b && nat_eq (slice_index os (m / 8) / 2 ^ (7 - m % 8) % 2) 1) (lt_suc (m / 8) (length os))

get_or_all_bits : (octets : List ℕ) (n : ℕ) → get_or (all_bits octets) n false ≡ is_set octets n
get_or_all_bits [] n = sym (ap (λ (b : Bool). b && nat_eq (slice_index [] (n / 8) / 2 ^ (7 - n % 8) % 2) 1) (le-ltb (n / 8) 0 (omega arith)))
get_or_all_bits (o ∷ os) zero = sym (is_set_first_octet o os 0 (omega arith))
get_or_all_bits (o ∷ os) (suc zero) = sym (is_set_first_octet o os 1 (omega arith))
get_or_all_bits (o ∷ os) (suc (suc zero)) = sym (is_set_first_octet o os 2 (omega arith))
get_or_all_bits (o ∷ os) (suc (suc (suc zero))) = sym (is_set_first_octet o os 3 (omega arith))
get_or_all_bits (o ∷ os) (suc (suc (suc (suc zero)))) = sym (is_set_first_octet o os 4 (omega arith))
get_or_all_bits (o ∷ os) (suc (suc (suc (suc (suc zero))))) = sym (is_set_first_octet o os 5 (omega arith))
get_or_all_bits (o ∷ os) (suc (suc (suc (suc (suc (suc zero)))))) = sym (is_set_first_octet o os 6 (omega arith))
get_or_all_bits (o ∷ os) (suc (suc (suc (suc (suc (suc (suc zero))))))) = sym (is_set_first_octet o os 7 (omega arith))
get_or_all_bits (o ∷ os) (suc (suc (suc (suc (suc (suc (suc (suc m)))))))) = get_or_all_bits os m ∙ sym (is_set_next_octet o os m)

get_or_replicate_false : (p n : ℕ) → get_or (replicate p false) n false ≡ false
get_or_replicate_false zero n = refl
get_or_replicate_false (suc p) zero = refl
get_or_replicate_false (suc p) (suc n) = get_or_replicate_false p n

get_or_append_false : (list : List Bool) (p n : ℕ) → get_or (list ++ replicate p false) n false ≡ get_or list n false
get_or_append_false [] p n = get_or_replicate_false p n
get_or_append_false (x ∷ list) p zero = refl
get_or_append_false (x ∷ list) p (suc n) = get_or_append_false list p n

pub set_bits : SetBits
set_bits list b h n = sym (get_or_all_bits b.octets n) ∙ ap (λ (t : List Bool). get_or t n false) h.filled ∙ get_or_append_false list b.padding n

-- ---- the list of a bit string

abbrev Filled : List ℕ → ℕ → Type 0
Filled octets p = (list : List Bool) × (all_bits octets ≡ list ++ replicate p false)

-- the low bits of an octet, the most significant first
abbrev low_bits : ℕ → ℕ → List Bool
low_bits zero o = []
low_bits (suc k) o = nat_eq (o / 2 ^ k % 2) 1 ∷ low_bits k o

both : {b : Bool} {t u : List Bool} → b ≡ false → t ≡ u → (b ∷ t) ≡ (false ∷ u)
both {b} {t} {u} p q = ap (λ (x : Bool). x ∷ t) p ∙ ap (λ (x : List Bool). false ∷ x) q

-- an octet of which the low bits are zero
clear_1 : (o : ℕ) → o % 2 ≡ 0 → low_bits 1 o ≡ replicate 1 false
clear_1 o h = both (ne_eqb (o / 1 % 2) 1 (λ e. omega (arith, h, e))) refl

clear_2 : (o : ℕ) → o % 4 ≡ 0 → low_bits 2 o ≡ replicate 2 false
clear_2 o h = both (ne_eqb (o / 2 % 2) 1 (λ e. omega (arith, h, e))) (clear_1 o (omega (arith, h)))

clear_3 : (o : ℕ) → o % 8 ≡ 0 → low_bits 3 o ≡ replicate 3 false
clear_3 o h = both (ne_eqb (o / 4 % 2) 1 (λ e. omega (arith, h, e))) (clear_2 o (omega (arith, h)))

clear_4 : (o : ℕ) → o % 16 ≡ 0 → low_bits 4 o ≡ replicate 4 false
clear_4 o h = both (ne_eqb (o / 8 % 2) 1 (λ e. omega (arith, h, e))) (clear_3 o (omega (arith, h)))

clear_5 : (o : ℕ) → o % 32 ≡ 0 → low_bits 5 o ≡ replicate 5 false
clear_5 o h = both (ne_eqb (o / 16 % 2) 1 (λ e. omega (arith, h, e))) (clear_4 o (omega (arith, h)))

clear_6 : (o : ℕ) → o % 64 ≡ 0 → low_bits 6 o ≡ replicate 6 false
clear_6 o h = both (ne_eqb (o / 32 % 2) 1 (λ e. omega (arith, h, e))) (clear_5 o (omega (arith, h)))

clear_7 : (o : ℕ) → o % 128 ≡ 0 → low_bits 7 o ≡ replicate 7 false
clear_7 o h = both (ne_eqb (o / 64 % 2) 1 (λ e. omega (arith, h, e))) (clear_6 o (omega (arith, h)))

clear : (p o : ℕ) → p ≤ 7 → o % 2 ^ p ≡ 0 → low_bits p o ≡ replicate p false
clear zero o few h = refl
clear (suc zero) o few h = clear_1 o h
clear (suc (suc zero)) o few h = clear_2 o h
clear (suc (suc (suc zero))) o few h = clear_3 o h
clear (suc (suc (suc (suc zero)))) o few h = clear_4 o h
clear (suc (suc (suc (suc (suc zero))))) o few h = clear_5 o h
clear (suc (suc (suc (suc (suc (suc zero)))))) o few h = clear_6 o h
clear (suc (suc (suc (suc (suc (suc (suc zero))))))) o few h = clear_7 o h
clear (suc (suc (suc (suc (suc (suc (suc (suc p)))))))) o few h = absurd (omega (arith, few))

octet_bits_split : (p o : ℕ) → p ≤ 7 → octet_bits o ≡ take (8 - p) (octet_bits o) ++ low_bits p o
octet_bits_split zero o few = refl
octet_bits_split (suc zero) o few = refl
octet_bits_split (suc (suc zero)) o few = refl
octet_bits_split (suc (suc (suc zero))) o few = refl
octet_bits_split (suc (suc (suc (suc zero)))) o few = refl
octet_bits_split (suc (suc (suc (suc (suc zero))))) o few = refl
octet_bits_split (suc (suc (suc (suc (suc (suc zero)))))) o few = refl
octet_bits_split (suc (suc (suc (suc (suc (suc (suc zero))))))) o few = refl
octet_bits_split (suc (suc (suc (suc (suc (suc (suc (suc p)))))))) o few = absurd (omega (arith, few))

one_octet : (o p : ℕ) → p ≤ 7 → o % 2 ^ p ≡ 0 → Filled (o ∷ []) p
one_octet o p few h = (take (8 - p) (octet_bits o), octet_bits_split p o few ∙ ap (λ (t : List Bool). take (8 - p) (octet_bits o) ++ t) (clear p o few h))

list_from : (octets : List ℕ) (p : ℕ) → p ≤ 7 → 0 < length octets → slice_index octets (length octets - 1) % 2 ^ p ≡ 0 → Filled octets p
list_from [] p few some h = absurd (omega (arith, some))
list_from (o ∷ []) p few some h = one_octet o p few h
list_from (o ∷ a ∷ octets) p few some h =
    let place : length (o ∷ a ∷ octets) - 1 ≡ suc (length (a ∷ octets) - 1) = omega arith in
    let rest = list_from (a ∷ octets) p few (omega arith) (sym (ap (λ (k : ℕ). slice_index (o ∷ a ∷ octets) k % 2 ^ p) place) ∙ h) in
    (octet_bits o ++ rest.0, ap (λ (t : List Bool). octet_bits o ++ t) rest.1)

bits_filled : (octets : List ℕ) (p : ℕ) → is_padded p octets ≡ true → Filled octets p × (p < 8)
bits_filled [] p h =
    let parts = and_parts (nat_le p 7) _ h in
    let none : p ≡ 0 = eqb-true p 0 parts.1 in
    (([], ap (λ (k : ℕ). replicate k false) (sym none)), omega (arith, leb-true p 7 parts.0))
bits_filled (o ∷ octets) p h =
    let parts = and_parts (nat_le p 7) _ h in
    let few = leb-true p 7 parts.0 in
    let last = slice_index (o ∷ octets) (length (o ∷ octets) - 1) in
    let some : nat_eq (length (o ∷ octets)) 0 ≡ false = ne_eqb (length (o ∷ octets)) 0 (λ e. omega (arith, e)) in
    let clear : nat_eq (last % 2 ^ p) 0 ≡ true = sym (ap (λ (b : Bool). if b then nat_eq p 0 else nat_eq (last % 2 ^ p) 0) some) ∙ parts.1 in
    (list_from (o ∷ octets) p few (omega arith) (eqb-true (last % 2 ^ p) 0 clear), omega (arith, few))

pub bits_are_a_list : BitsAreAList
bits_are_a_list b h =
    let found = bits_filled b.octets b.padding h in
    (found.0.0, record { filled = found.0.1; few = found.1 })

-- ---- the bit string of a list

abbrev weight : Bool → ℕ → ℕ
weight b n = if b then n else 0

abbrev octet_of : Bool → Bool → Bool → Bool → Bool → Bool → Bool → Bool → ℕ
octet_of a b c d e f g h = weight a 128 + weight b 64 + weight c 32 + weight d 16 + weight e 8 + weight f 4 + weight g 2 + weight h 1

-- the octets that the bits fill entirely
octets_from : List Bool → List ℕ
octets_from (a ∷ b ∷ c ∷ d ∷ e ∷ f ∷ g ∷ h ∷ list) = octet_of a b c d e f g h ∷ octets_from list
octets_from list = []

abbrev octet_back : ℕ → ℕ
octet_back o = octet_of (bit_at o 0) (bit_at o 1) (bit_at o 2) (bit_at o 3) (bit_at o 4) (bit_at o 5) (bit_at o 6) (bit_at o 7)

all_back : below (λ o. eqb (octet_back o) o) 256 ≡ true
unfolding below
all_back = refl

octets_from_all_bits : (octets : List ℕ) → IsOctets octets → octets_from (all_bits octets) ≡ octets
unfolding octets_from
octets_from_all_bits [] is = refl
octets_from_all_bits (o ∷ octets) is =
    let one : octet_back o ≡ o = eqb-true (octet_back o) o (below_is (λ k. eqb (octet_back k) k) 256 o all_back is.0) in
    ap (λ (x : ℕ). x ∷ octets_from (all_bits octets)) one ∙ ap (λ (t : List ℕ). o ∷ t) (octets_from_all_bits octets is.1)

length_all_bits : (octets : List ℕ) → length (all_bits octets) ≡ 8 * length octets
length_all_bits [] = refl
length_all_bits (o ∷ octets) = omega (arith, length_all_bits octets)

length_append_replicate : (list : List Bool) (p : ℕ) → length (list ++ replicate p false) ≡ length list + p
length_append_replicate [] zero = refl
length_append_replicate [] (suc p) = omega (arith, length_append_replicate [] p)
length_append_replicate (x ∷ list) p = omega (arith, length_append_replicate list p)

pub one_bit_string : OneBitString
one_bit_string list b other is are h g =
    let n = ap length h.filled ∙ length_append_replicate list b.padding in
    let m = ap length g.filled ∙ length_append_replicate list other.padding in
    let same : b.padding ≡ other.padding = omega (arith, n, m, length_all_bits b.octets, length_all_bits other.octets, h.few, g.few) in
    let full : all_bits b.octets ≡ all_bits other.octets = h.filled ∙ ap (λ (k : ℕ). list ++ replicate k false) same ∙ sym g.filled in
    let octets : b.octets ≡ other.octets = sym (octets_from_all_bits b.octets is) ∙ ap octets_from full ∙ octets_from_all_bits other.octets are in
    ap (λ (t : List ℕ). bits t b.padding) octets ∙ ap (bits other.octets) same

-- ---- octets that a list fills are padded

-- a bit of the padding, the least significant at position 0
padding_bit : (list : List Bool) (b : Bits) → IsBitsOf list b → (k : ℕ) → k < b.padding → slice_index b.octets (length b.octets - 1) / 2 ^ k % 2 ≡ 0
padding_bit list b h k inside =
    let count : 8 * length b.octets ≡ length list + b.padding = sym (length_all_bits b.octets) ∙ ap length h.filled ∙ length_append_replicate list b.padding in
    let n = 8 * length b.octets - 1 - k in
    let octet : n / 8 ≡ length b.octets - 1 = omega (arith, count, inside, h.few) in
    let place : 7 - n % 8 ≡ k = omega (arith, count, inside, h.few) in
    let behind : has_bit b n ≡ false = set_bits list b h n ∙ get_or_past list n false (omega (arith, count, inside)) in
    let within : nat_lt (n / 8) (length b.octets) ≡ true = lt-ltb (n / 8) (length b.octets) (omega (arith, count, inside, h.few)) in
    let bit : nat_eq (slice_index b.octets (n / 8) / 2 ^ (7 - n % 8) % 2) 1 ≡ false = sym (ap (λ (x : Bool). x && nat_eq (slice_index b.octets (n / 8) / 2 ^ (7 - n % 8) % 2) 1) within) ∙ behind in
    let zero : nat_eq (slice_index b.octets (length b.octets - 1) / 2 ^ k % 2) 1 ≡ false = sym (ap (λ (x : ℕ). nat_eq (slice_index b.octets x / 2 ^ k % 2) 1) octet) ∙ sym (ap (λ (x : ℕ). nat_eq (slice_index b.octets (n / 8) / 2 ^ x % 2) 1) place) ∙ bit in
    omega (arith, eqb-false (slice_index b.octets (length b.octets - 1) / 2 ^ k % 2) 1 zero)

clear_low : (p o : ℕ) → p < 8 → ((k : ℕ) → k < p → o / 2 ^ k % 2 ≡ 0) → o % 2 ^ p ≡ 0
clear_low zero o few h = omega arith
clear_low (suc zero) o few h = omega (arith, h 0 (omega arith))
clear_low (suc (suc zero)) o few h = omega (arith, h 0 (omega arith), h 1 (omega arith))
clear_low (suc (suc (suc zero))) o few h = omega (arith, h 0 (omega arith), h 1 (omega arith), h 2 (omega arith))
clear_low (suc (suc (suc (suc zero)))) o few h = omega (arith, h 0 (omega arith), h 1 (omega arith), h 2 (omega arith), h 3 (omega arith))
clear_low (suc (suc (suc (suc (suc zero))))) o few h = omega (arith, h 0 (omega arith), h 1 (omega arith), h 2 (omega arith), h 3 (omega arith), h 4 (omega arith))
clear_low (suc (suc (suc (suc (suc (suc zero)))))) o few h = omega (arith, h 0 (omega arith), h 1 (omega arith), h 2 (omega arith), h 3 (omega arith), h 4 (omega arith), h 5 (omega arith))
clear_low (suc (suc (suc (suc (suc (suc (suc zero))))))) o few h = omega (arith, h 0 (omega arith), h 1 (omega arith), h 2 (omega arith), h 3 (omega arith), h 4 (omega arith), h 5 (omega arith), h 6 (omega arith))
clear_low (suc (suc (suc (suc (suc (suc (suc (suc p)))))))) o few h = absurd (omega (arith, few))

filled_padded : (list : List Bool) (octets : List ℕ) (p : ℕ) → IsBitsOf list (bits octets p) → is_padded p octets ≡ true
filled_padded list [] p h =
    let none : p ≡ 0 = omega (arith, length_all_bits [], ap length h.filled, length_append_replicate list p) in
    ap (λ (x : Bool). x && nat_eq p 0) (le-leb p 7 (omega (arith, h.few))) ∙ eq-eqb p 0 none
filled_padded list (o ∷ octets) p h =
    let last = slice_index (o ∷ octets) (length (o ∷ octets) - 1) in
    let some : nat_eq (length (o ∷ octets)) 0 ≡ false = ne_eqb (length (o ∷ octets)) 0 (λ e. omega (arith, e)) in
    let clear : nat_eq (last % 2 ^ p) 0 ≡ true = eq-eqb (last % 2 ^ p) 0 (clear_low p last h.few (padding_bit list (bits (o ∷ octets) p) h)) in
    ap (λ (x : Bool). x && (if nat_eq (length (o ∷ octets)) 0 then nat_eq p 0 else nat_eq (last % 2 ^ p) 0)) (le-leb p 7 (omega (arith, h.few)))
    ∙ ap (λ (x : Bool). if x then nat_eq p 0 else nat_eq (last % 2 ^ p) 0) some
    ∙ clear

pub filled_octets_are_bits : FilledOctetsAreBits
filled_octets_are_bits list b h = filled_padded list b.octets b.padding h

-- ---- each list fills octets

weight_le : (b : Bool) (n : ℕ) → weight b n ≤ n
weight_le true n = omega arith
weight_le false n = omega arith

octet_of_lt : (a b c d e f g h : Bool) → octet_of a b c d e f g h < 256
octet_of_lt a b c d e f g h = omega (arith, weight_le a 128, weight_le b 64, weight_le c 32, weight_le d 16, weight_le e 8, weight_le f 4, weight_le g 2, weight_le h 1)

-- whether a test holds of both bits
abbrev each : (Bool → Bool) → Bool
each p = p true && p false

each_at : (p : Bool → Bool) → each p ≡ true → (b : Bool) → p b ≡ true
each_at p e true = (and_parts (p true) (p false) e).0
each_at p e false = (and_parts (p true) (p false) e).1

abbrev alike : Bool → Bool → Bool
alike true y = y
alike false y = if y then false else true

alike_is : (x y : Bool) → alike x y ≡ true → x ≡ y
alike_is true true e = refl
alike_is true false e = sym e
alike_is false true e = e
alike_is false false e = refl

abbrev all_alike : List Bool → List Bool → Bool
all_alike [] [] = true
all_alike [] (y ∷ ys) = false
all_alike (x ∷ xs) [] = false
all_alike (x ∷ xs) (y ∷ ys) = alike x y && all_alike xs ys

all_alike_are : (xs ys : List Bool) → all_alike xs ys ≡ true → xs ≡ ys
all_alike_are [] [] e = refl
all_alike_are [] (y ∷ ys) e = absurd cc
all_alike_are (x ∷ xs) [] e = absurd cc
all_alike_are (x ∷ xs) (y ∷ ys) e =
    let parts = and_parts (alike x y) (all_alike xs ys) e in
    ap (λ (z : Bool). z ∷ xs) (alike_is x y parts.0) ∙ ap (λ (zs : List Bool). y ∷ zs) (all_alike_are xs ys parts.1)

abbrev is_back : Bool → Bool → Bool → Bool → Bool → Bool → Bool → Bool → Bool
is_back a b c d e f g h = all_alike (octet_bits (octet_of a b c d e f g h)) (a ∷ b ∷ c ∷ d ∷ e ∷ f ∷ g ∷ h ∷ [])

all_are_back : each (λ a. each (λ b. each (λ c. each (λ d. each (λ e. each (λ f. each (λ g. each (λ h. is_back a b c d e f g h)))))))) ≡ true
all_are_back = refl

octet_bits_of : (a b c d e f g h : Bool) → octet_bits (octet_of a b c d e f g h) ≡ a ∷ b ∷ c ∷ d ∷ e ∷ f ∷ g ∷ h ∷ []
octet_bits_of a b c d e f g h =
    let at_a = each_at (λ (a : Bool). each (λ b. each (λ c. each (λ d. each (λ e. each (λ f. each (λ g. each (λ h. is_back a b c d e f g h)))))))) all_are_back a in
    let at_b = each_at (λ (b : Bool). each (λ c. each (λ d. each (λ e. each (λ f. each (λ g. each (λ h. is_back a b c d e f g h))))))) at_a b in
    let at_c = each_at (λ (c : Bool). each (λ d. each (λ e. each (λ f. each (λ g. each (λ h. is_back a b c d e f g h)))))) at_b c in
    let at_d = each_at (λ (d : Bool). each (λ e. each (λ f. each (λ g. each (λ h. is_back a b c d e f g h))))) at_c d in
    let at_e = each_at (λ (e : Bool). each (λ f. each (λ g. each (λ h. is_back a b c d e f g h)))) at_d e in
    let at_f = each_at (λ (f : Bool). each (λ g. each (λ h. is_back a b c d e f g h))) at_e f in
    let at_g = each_at (λ (g : Bool). each (λ h. is_back a b c d e f g h)) at_f g in
    let at_h = each_at (λ (h : Bool). is_back a b c d e f g h) at_g h in
    all_alike_are _ _ at_h

abbrev Listed : List Bool → Type 0
Listed list = (b : Bits) × IsOctets b.octets × IsBitsOf list b

one_more : (a b c d e f g h : Bool) (list : List Bool) → Listed list → Listed (a ∷ b ∷ c ∷ d ∷ e ∷ f ∷ g ∷ h ∷ list)
one_more a b c d e f g h list rest = (
  bits (octet_of a b c d e f g h ∷ rest.0.octets) rest.0.padding,
  (octet_of_lt a b c d e f g h, rest.1),
  record {
    filled = ap (λ (t : List Bool). t ++ all_bits rest.0.octets) (octet_bits_of a b c d e f g h) ∙ ap (λ (t : List Bool). a ∷ b ∷ c ∷ d ∷ e ∷ f ∷ g ∷ h ∷ t) rest.2.filled;
    few = rest.2.few;
  },
)

-- the last octet, with this many bits of padding
last : (a b c d e f g h : Bool) (list : List Bool) (p : ℕ) → p < 8 → (a ∷ b ∷ c ∷ d ∷ e ∷ f ∷ g ∷ h ∷ []) ≡ list ++ replicate p false → Listed list
last a b c d e f g h list p few is = (
  bits (octet_of a b c d e f g h ∷ []) p,
  (octet_of_lt a b c d e f g h, tt),
  record { filled = octet_bits_of a b c d e f g h ∙ is; few = few },
)

pub each_list_has_bits : EachListHasBits
each_list_has_bits [] = (bits [] 0, tt, record { filled = refl; few = omega arith })
each_list_has_bits (a ∷ []) = last a false false false false false false false (a ∷ []) 7 (omega arith) refl
each_list_has_bits (a ∷ b ∷ []) = last a b false false false false false false (a ∷ b ∷ []) 6 (omega arith) refl
each_list_has_bits (a ∷ b ∷ c ∷ []) = last a b c false false false false false (a ∷ b ∷ c ∷ []) 5 (omega arith) refl
each_list_has_bits (a ∷ b ∷ c ∷ d ∷ []) = last a b c d false false false false (a ∷ b ∷ c ∷ d ∷ []) 4 (omega arith) refl
each_list_has_bits (a ∷ b ∷ c ∷ d ∷ e ∷ []) = last a b c d e false false false (a ∷ b ∷ c ∷ d ∷ e ∷ []) 3 (omega arith) refl
each_list_has_bits (a ∷ b ∷ c ∷ d ∷ e ∷ f ∷ []) = last a b c d e f false false (a ∷ b ∷ c ∷ d ∷ e ∷ f ∷ []) 2 (omega arith) refl
each_list_has_bits (a ∷ b ∷ c ∷ d ∷ e ∷ f ∷ g ∷ []) = last a b c d e f g false (a ∷ b ∷ c ∷ d ∷ e ∷ f ∷ g ∷ []) 1 (omega arith) refl
each_list_has_bits (a ∷ b ∷ c ∷ d ∷ e ∷ f ∷ g ∷ h ∷ list) = one_more a b c d e f g h list (each_list_has_bits list)
