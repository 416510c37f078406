-- The number of the first octets of an encoding, and the order of encodings.
use Rattle.std.proofs.Common.{◌≡◌, ℕ, zero, suc, ◌+◌, ◌-◌, ◌*◌, ◌^◌, min, ◌<◌, ◌≤◌, ◌++◌, Bool, true, false, List, [], ◌∷◌, length, take, drop, get_or, if◌then◌else◌, nat_le, replicate, refl, sym, ap, subst, ◌∙◌, ⊎_elim, arith}
use Rattle.std.proofs.lemmas.Bool.{lt-ltb, le-ltb, eq-eqb, cases_lt, cases_eq}
use Rattle.std.proofs.lemmas.List.{length-take-le, length-append, length-replicate, take_all, take-replicate, drop-replicate}
use Rattle.std.proofs.lemmas.Grind.{common_steps}
use Rattle.std.proofs.lemmas.Nat.{mul-add-lt}
use Rattle.asn1_core.specs.Base256.{IsOctets, number}
use Rattle.asn1_core.specs.Listing.{encoding_less}
use Rattle.std.specs.List.{All}
use Rattle.std.specs.List.Sorted.{IsSortedBy}
use Rattle.std.specs.Ordering.{is_lt, nat_cmp, ordering_then}
use Rattle.std.specs.declared.cmp.Ordering.{Ordering}
use Rattle.std.specs.Cmp.Lexicographic.{slice_cmp}
use Rattle.asn1_core.specs.declared.writer.sets.Span.{Span}
use Rattle.asn1_core.specs.Lemmas.Listing.{encoding_less_asymm}
use Rattle.asn1_core.specs.SetSteps.{part_of, first_number, span_cmp, IsBefore, NotesFirst}
use Rattle.asn1_core.specs.Lemmas.Lengths.{number_is_lt}
use Rattle.asn1_core.specs.Lemmas.Texts.{IsOctets_append}
use Rattle.asn1_core.proofs.Ordered.{encoding_less_cons_below, encoding_less_cons_same}
use Rattle.asn1_core.specs.Lemmas.Facts.{IsOctets_replicate_zero}

number_replicate_zero : (n : ℕ) → number (replicate n 0) ≡ 0
number_replicate_zero zero = refl
number_replicate_zero (suc n) = omega (arith, number_replicate_zero n)

IsOctets_take : (k : ℕ) (t : List ℕ) → IsOctets t → IsOctets (take k t)
IsOctets_take zero t is = tt
IsOctets_take (suc k) [] is = tt
IsOctets_take (suc k) (x ∷ xs) is = (is.0, IsOctets_take k xs is.1)

-- the first k octets of an encoding with n zeros after it
abbrev firsts : ℕ → ℕ → List ℕ → List ℕ
firsts n k t = take k (t ++ replicate n 0)

length_firsts : (n k : ℕ) (t : List ℕ) → k ≤ n → length (firsts n k t) ≡ k
length_firsts n k t h = length-take-le k (t ++ replicate n 0) (omega (arith, length-append t (replicate n 0), length-replicate {A = ℕ} n 0))

number_firsts_lt : (n k : ℕ) (t : List ℕ) → IsOctets t → k ≤ n → number (firsts n k t) < 256 ^ k
number_firsts_lt n k t is h =
    subst (λ (m : ℕ). number (firsts n k t) < 256 ^ m) (length_firsts n k t h)
    (number_is_lt (firsts n k t) (IsOctets_take k (t ++ replicate n 0) (IsOctets_append t (replicate n 0) is (IsOctets_replicate_zero n))))

number_firsts_nil : (n k : ℕ) → k ≤ n → number (firsts n k []) ≡ 0
number_firsts_nil n k h = ap number (take-replicate {X = ℕ} k n 0 h) ∙ number_replicate_zero k

number_firsts_cons : (n k x : ℕ) (xs : List ℕ) → k ≤ n → number (firsts n (suc k) (x ∷ xs)) ≡ x * 256 ^ k + number (firsts n k xs)
number_firsts_cons n k x xs h = ap (λ (m : ℕ). x * 256 ^ m + number (firsts n k xs)) (length_firsts n k xs h)

-- the leading number decides
decided : {A : Type 0} (x y p r s : ℕ) → x * p + r < y * p + s → r < p → s < p → (x < y → A) → (x ≡ y → r < s → A) → A
decided x y p r s less hr hs below same = ⊎_elim
    below
    (λ (h : y ≤ x). ⊎_elim
    (λ (e : x ≡ y). same e (let f : x * p ≡ y * p = ap (λ (n : ℕ). n * p) e in omega (arith, f, less)))
    (λ (n : x ≡ y → ⊥). let over : y * p + s < p * x = mul-add-lt y p s x (omega arith) hs in absurd (omega (arith, over, less))) (cases_eq x y))
    (cases_lt x y)

encoding_less_firsts : (n k : ℕ) (a b : List ℕ) → IsOctets a → IsOctets b → k ≤ n → number (firsts n k a) < number (firsts n k b) → encoding_less a b ≡ true
encoding_less_firsts n zero a b f g h less = absurd (omega (arith, less))
encoding_less_firsts n (suc k) a [] f g h less = absurd (omega (arith, less, number_firsts_nil n (suc k) h))
encoding_less_firsts n (suc k) [] (y ∷ ys) f g h less = refl
encoding_less_firsts n (suc k) (x ∷ xs) (y ∷ ys) f g h less =
    let l : k ≤ n = omega (arith, h) in
    decided x y (256 ^ k) (number (firsts n k xs)) (number (firsts n k ys)) (omega (arith, less, number_firsts_cons n k x xs l, number_firsts_cons n k y ys l)) (number_firsts_lt n k xs f.1 l) (number_firsts_lt n k ys g.1 l)
    (encoding_less_cons_below x y xs ys)
    (λ e rest. encoding_less_cons_same x y xs ys e ∙ encoding_less_firsts n k xs ys f.1 g.1 l rest)

pub encoding_less_first_number : (a b : List ℕ) → IsOctets a → IsOctets b → first_number a < first_number b → encoding_less a b ≡ true
encoding_less_first_number a b f g less = encoding_less_firsts 8 8 a b f g (omega arith) less

-- all of the octets are taken, and what they lack from the octets after them
take_past : (t r : List ℕ) (n : ℕ) → length t ≤ n → take n (t ++ r) ≡ t ++ take (n - length t) r
take_past [] r n h = ap (λ (m : ℕ). take m r) (omega arith)
take_past (x ∷ xs) r zero h = absurd (omega (arith, h))
take_past (x ∷ xs) r (suc n) h =
    ap (λ (u : List ℕ). x ∷ u) (take_past xs r n (omega (arith, h))) ∙ ap (λ (m : ℕ). x ∷ xs ++ take m r) (omega arith)

-- the octets that there are, and zeros after them
filled_firsts : (n : ℕ) (t ys : List ℕ) (count : ℕ) → count ≡ min (length t) n → ys ≡ take count t → ys ++ drop count (replicate n 0) ≡ firsts n n t
filled_firsts n t ys count e f = ⊎_elim
    (λ (h : length t < n).
    let all : ys ≡ t = f ∙ take_all count t (omega (arith, e)) in
    let size : count ≡ length t = omega (arith, e) in
    let rest : drop count (replicate n 0) ≡ replicate (n - count) 0 = drop-replicate {X = ℕ} count n 0 in
    let more : take (n - count) (replicate n 0) ≡ replicate (n - count) 0 = take-replicate {X = ℕ} (n - count) n 0 (omega arith) in
    let past : firsts n n t ≡ t ++ take (n - count) (replicate n 0) = take_past t (replicate n 0) n (omega arith) ∙ ap (λ (m : ℕ). t ++ take (n - m) (replicate n 0)) (sym size) in
    rw (past, rest, more, all) refl)
    (λ (h : n ≤ length t).
    let all : count ≡ n = omega (arith, e) in
    let rest : drop count (replicate n 0) ≡ replicate (n - count) 0 = drop-replicate {X = ℕ} count n 0 in
    grind (arith, common_steps))
    (cases_lt (length t) n)

pub append_drop_zeros : (t ys : List ℕ) (count : ℕ) → count ≡ min (length t) 8 → ys ≡ take count t → ys ++ drop count (replicate 8 0) ≡ take 8 (t ++ replicate 8 0)
append_drop_zeros t ys count e f = filled_firsts 8 t ys count e f

-- ---- spans

ordering_then_less : (m n : ℕ) (o : Ordering) → m < n → is_lt (ordering_then (nat_cmp m n) o) ≡ true
ordering_then_less m n o h = rw (lt-ltb m n h) refl

ordering_then_same : (m n : ℕ) (o : Ordering) → m ≡ n → ordering_then (nat_cmp m n) o ≡ o
ordering_then_same m n o e = rw (le-ltb m n (omega arith), eq-eqb m n e) refl

IsOctets_drop : (k : ℕ) (t : List ℕ) → IsOctets t → IsOctets (drop k t)
IsOctets_drop zero t is = is
IsOctets_drop (suc k) [] is = tt
IsOctets_drop (suc k) (x ∷ xs) is = IsOctets_drop k xs is.1

IsOctets_if : (b : Bool) (t : List ℕ) → IsOctets t → IsOctets (if b then t else [])
IsOctets_if true t is = is
IsOctets_if false t is = tt

IsOctets_part_of : (octets : List ℕ) (s : Span) → IsOctets octets → IsOctets (part_of octets s)
IsOctets_part_of octets s is = IsOctets_if (nat_le (s.from + s.len) (length octets)) _ (IsOctets_take s.len (drop s.from octets) (IsOctets_drop s.from octets is))

-- spans that don't compare as less aren't before one another
IsBefore_span_cmp : (octets : List ℕ) (a b : Span) → IsOctets octets → NotesFirst octets a → NotesFirst octets b → is_lt (span_cmp octets a b) ≡ false → IsBefore octets a b ≡ false
IsBefore_span_cmp octets a b is fa fb e =
    let ta = IsOctets_part_of octets a is in
    let tb = IsOctets_part_of octets b is in
    let o = slice_cmp nat_cmp (part_of octets a) (part_of octets b) in
    let na : a.first ≡ first_number (part_of octets a) = fa.first in
    let nb : b.first ≡ first_number (part_of octets b) = fb.first in
    ⊎_elim
    (λ (l : a.first < b.first). absurd (let f : is_lt (span_cmp octets a b) ≡ true = ordering_then_less a.first b.first o l in cc))
    (λ (l : b.first ≤ a.first). ⊎_elim
    (λ (s : a.first ≡ b.first). ap is_lt (sym (ordering_then_same a.first b.first o s)) ∙ e)
    (λ (n : a.first ≡ b.first → ⊥). encoding_less_asymm (part_of octets b) (part_of octets a) (encoding_less_first_number (part_of octets b) (part_of octets a) tb ta (omega (arith, na, nb)))) (cases_eq a.first b.first))
    (cases_lt a.first b.first)

pub sorted_spans : (octets : List ℕ) (ss : List Span) → IsOctets octets → All (NotesFirst octets) ss → IsSortedBy (λ a b. is_lt (span_cmp octets a b)) ss → IsSortedBy (IsBefore octets) ss
sorted_spans octets ss is each s k d low high =
    IsBefore_span_cmp octets (get_or ss (k + 1) d) (get_or ss k d) is (each (k + 1) d high) (each k d (omega arith)) (s k d low high)
