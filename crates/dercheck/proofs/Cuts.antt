-- Inputs cut at an octet, and inputs cut into lines.
use Rattle.std.proofs.Common.{◌≡◌, ◌≢◌, ℕ, suc, ◌+◌, ◌<◌, ◌≤◌, eqb, List, [], ◌∷◌, ◌++◌, length, take, drop, Option, Some, None, refl, sym, ap, ◌∙◌, ⊎_elim, add-one, arith}
use Rattle.std.specs.List.{position_or_len, position}
use Rattle.std.proofs.lemmas.Bool.{cases_eq, eq-eqb, ne_eqb, lt-ltb, le-ltb, cases_lt}
use Rattle.std.proofs.lemmas.List.{length-append}
use Rattle.dercheck.specs.Lines.{split_once, with_octet, lines_of, in_first_line, HasNone}

abbrev Parts : Type 0
Parts = Option (List ℕ × List ℕ)

-- ---- an input cut at an octet

pub split_once_here : (octet next : ℕ) (octets : List ℕ) → next ≡ octet → split_once octet (next ∷ octets) ≡ Some ([], octets)
unfolding split_once
split_once_here octet next octets e = rw (eq-eqb next octet e) refl

pub split_once_later : (octet next : ℕ) (octets : List ℕ) → next ≢ octet → split_once octet (next ∷ octets) ≡ with_octet next (split_once octet octets)
unfolding split_once
split_once_later octet next octets apart = rw (ne_eqb next octet apart) refl

pub split_once_none : (octet : ℕ) → split_once octet [] ≡ None
unfolding split_once
split_once_none octet = refl

-- the index of the octet, or the length
abbrev place : ℕ → List ℕ → ℕ
place octet octets = position_or_len (λ next. eqb next octet) octets

place_here : (octet next : ℕ) (octets : List ℕ) → next ≡ octet → place octet (next ∷ octets) ≡ 0
place_here octet next octets e = rw (eq-eqb next octet e) refl

place_later : (octet next : ℕ) (octets : List ℕ) → next ≢ octet → place octet (next ∷ octets) ≡ suc (place octet octets)
place_later octet next octets apart = rw (ne_eqb next octet apart) (omega arith)

abbrev cut_at : ℕ → List ℕ → List ℕ × List ℕ
cut_at at octets = (take at octets, drop (suc at) octets)

split_once_place : (octet : ℕ) (octets : List ℕ) → place octet octets < length octets → split_once octet octets ≡ Some (cut_at (place octet octets) octets)
split_once_place octet [] less = absurd (omega arith)
split_once_place octet (next ∷ octets) less = ⊎_elim
    (λ (here : next ≡ octet). split_once_here octet next octets here ∙ ap (λ (at : ℕ). Some (cut_at at (next ∷ octets))) (sym (place_here octet next octets here)))
    (λ (later : next ≢ octet).
    let at : place octet (next ∷ octets) ≡ suc (place octet octets) = place_later octet next octets later in
    split_once_later octet next octets later
    ∙ ap (with_octet next) (split_once_place octet octets (omega arith))
    ∙ ap (λ (k : ℕ). Some (cut_at k (next ∷ octets))) (sym at))
    (cases_eq next octet)

split_once_nowhere : (octet : ℕ) (octets : List ℕ) → length octets ≤ place octet octets → split_once octet octets ≡ None
split_once_nowhere octet [] most = split_once_none octet
split_once_nowhere octet (next ∷ octets) most = ⊎_elim
    (λ (here : next ≡ octet).
    let at : place octet (next ∷ octets) ≡ 0 = place_here octet next octets here in absurd (omega arith))
    (λ (later : next ≢ octet).
    let at : place octet (next ∷ octets) ≡ suc (place octet octets) = place_later octet next octets later in
    split_once_later octet next octets later ∙ ap (with_octet next) (split_once_nowhere octet octets (omega arith)))
    (cases_eq next octet)

abbrev found_at : ℕ → List ℕ → Option ℕ
found_at octet octets = position (λ next. eqb next octet) octets

pub Some_injective : {A : Type 0} (x y : A) → ◌≡◌ {A = Option A} (Some x) (Some y) → x ≡ y
Some_injective x y e = cc

-- the input is cut at the index that `position` finds
pub split_once_found : (octet : ℕ) (octets : List ℕ) (at : ℕ) → found_at octet octets ≡ Some at → split_once octet octets ≡ Some (take at octets, drop (at + 1) octets)
split_once_found octet octets at found = ⊎_elim
    (λ (less : place octet octets < length octets).
    let same : place octet octets ≡ at = Some_injective _ _ (rw (lt-ltb _ _ less) at found) in
    split_once_place octet octets less ∙ rw (same, add-one) refl)
    (λ (most : length octets ≤ place octet octets). let no : None ≡ Some at = rw (le-ltb _ _ most) at found in absurd cc)
    (cases_lt (place octet octets) (length octets))

pub split_once_missing : (octet : ℕ) (octets : List ℕ) → found_at octet octets ≡ None → split_once octet octets ≡ None
split_once_missing octet octets missing = ⊎_elim
    (λ (less : place octet octets < length octets). let no : Some (place octet octets) ≡ None = rw (lt-ltb _ _ less) at missing in absurd cc)
    (λ (most : length octets ≤ place octet octets). split_once_nowhere octet octets most)
    (cases_lt (place octet octets) (length octets))

-- the input is its parts, with the octet between them
abbrev IsJoined : ℕ → List ℕ → List ℕ × List ℕ → Type 0
IsJoined octet octets parts = octets ≡ parts.0 ++ octet ∷ parts.1

joined_later : (octet next : ℕ) (octets : List ℕ) (parts : List ℕ × List ℕ) (rest : Parts) →
    ((inner : List ℕ × List ℕ) → rest ≡ Some inner → IsJoined octet octets inner) →
    with_octet next rest ≡ Some parts → IsJoined octet (next ∷ octets) parts
joined_later octet next octets parts None law e = let no : None ≡ Some parts = e in absurd cc
joined_later octet next octets parts (Some inner) law e =
    let same : (next ∷ inner.0, inner.1) ≡ parts = Some_injective _ _ e in
    rw (← same) (ap (λ (xs : List ℕ). next ∷ xs) (law inner refl))

pub split_once_is : (octet : ℕ) (octets : List ℕ) (parts : List ℕ × List ℕ) → split_once octet octets ≡ Some parts → IsJoined octet octets parts
split_once_is octet [] parts e = let no : None ≡ Some parts = sym (split_once_none octet) ∙ e in absurd cc
split_once_is octet (next ∷ octets) parts e = ⊎_elim
    (λ (here : next ≡ octet).
    let same : ([], octets) ≡ parts = Some_injective _ _ (sym (split_once_here octet next octets here) ∙ e) in
    rw (← same, here) refl)
    (λ (later : next ≢ octet).
    joined_later octet next octets parts (split_once octet octets) (split_once_is octet octets) (sym (split_once_later octet next octets later) ∙ e))
    (cases_eq next octet)

-- an input that is cut after a prefix without the octet
pub split_once_append : (octet : ℕ) (front rest : List ℕ) → HasNone octet front → split_once octet (front ++ octet ∷ rest) ≡ Some (front, rest)
split_once_append octet [] rest none = split_once_here octet octet rest refl
split_once_append octet (next ∷ front) rest none =
    split_once_later octet next (front ++ octet ∷ rest) none.0 ∙ ap (with_octet next) (split_once_append octet front rest none.1)

-- ---- an input cut into lines

pub lines_of_feed : (octets : List ℕ) → lines_of (10 ∷ octets) ≡ [] ∷ lines_of octets
unfolding lines_of
lines_of_feed octets = refl

pub lines_of_more : (octet : ℕ) (octets : List ℕ) → octet ≢ 10 → lines_of (octet ∷ octets) ≡ in_first_line octet (lines_of octets)
unfolding lines_of
lines_of_more octet octets apart = rw (ne_eqb octet 10 apart) refl

pub lines_of_none : lines_of [] ≡ []
unfolding lines_of
lines_of_none = refl

-- a line that ends is the first
pub lines_of_line : (line rest : List ℕ) → HasNone 10 line → lines_of (line ++ 10 ∷ rest) ≡ line ∷ lines_of rest
lines_of_line [] rest none = lines_of_feed rest
lines_of_line (octet ∷ line) rest none =
    lines_of_more octet (line ++ 10 ∷ rest) none.0 ∙ ap (in_first_line octet) (lines_of_line line rest none.1)

-- a line that doesn't end is the only one
pub lines_of_last : (octet : ℕ) (line : List ℕ) → HasNone 10 (octet ∷ line) → lines_of (octet ∷ line) ≡ (octet ∷ line) ∷ []
lines_of_last octet [] none = lines_of_more octet [] none.0 ∙ ap (in_first_line octet) lines_of_none
lines_of_last octet (next ∷ line) none =
    lines_of_more octet (next ∷ line) none.0 ∙ ap (in_first_line octet) (lines_of_last next line none.1)

abbrev IsFirst : List ℕ → List ℕ × List ℕ → Type 0
IsFirst octets parts = lines_of octets ≡ parts.0 ∷ lines_of parts.1

first_later : (next : ℕ) (octets : List ℕ) (parts : List ℕ × List ℕ) (rest : Parts) → next ≢ 10 →
    ((inner : List ℕ × List ℕ) → rest ≡ Some inner → IsFirst octets inner) →
    with_octet next rest ≡ Some parts → IsFirst (next ∷ octets) parts
first_later next octets parts None apart law e = let no : None ≡ Some parts = e in absurd cc
first_later next octets parts (Some inner) apart law e =
    let same : (next ∷ inner.0, inner.1) ≡ parts = Some_injective _ _ e in
    lines_of_more next octets apart ∙ ap (in_first_line next) (law inner refl) ∙ rw (← same) refl

-- the first line is what is before the first line feed, and the other lines are those of what is after it
pub lines_of_cut : (octets : List ℕ) (parts : List ℕ × List ℕ) → split_once 10 octets ≡ Some parts → lines_of octets ≡ parts.0 ∷ lines_of parts.1
lines_of_cut [] parts e = let no : None ≡ Some parts = sym (split_once_none 10) ∙ e in absurd cc
lines_of_cut (next ∷ octets) parts e = ⊎_elim
    (λ (here : next ≡ 10).
    let same : ([], octets) ≡ parts = Some_injective _ _ (sym (split_once_here 10 next octets here) ∙ e) in
    rw (here, ← same) (lines_of_feed octets))
    (λ (later : next ≢ 10).
    first_later next octets parts (split_once 10 octets) later (lines_of_cut octets) (sym (split_once_later 10 next octets later) ∙ e))
    (cases_eq next 10)

missing_later : (next : ℕ) (rest : Parts) → with_octet next rest ≡ None → rest ≡ None
missing_later next None e = refl
missing_later next (Some inner) e = absurd cc

-- an input that isn't cut doesn't have the octet
pub HasNone_missing : (octet : ℕ) (octets : List ℕ) → split_once octet octets ≡ None → HasNone octet octets
HasNone_missing octet [] e = tt
HasNone_missing octet (next ∷ octets) e = ⊎_elim
    (λ (here : next ≡ octet). let no : Some ([], octets) ≡ None = sym (split_once_here octet next octets here) ∙ e in absurd cc)
    (λ (later : next ≢ octet).
    (later, HasNone_missing octet octets (missing_later next (split_once octet octets) (sym (split_once_later octet next octets later) ∙ e))))
    (cases_eq next octet)

-- an input with no line feed is one line, if it isn't empty
pub lines_of_uncut : (octets : List ℕ) → 0 < length octets → split_once 10 octets ≡ None → lines_of octets ≡ octets ∷ []
lines_of_uncut [] some e = absurd (omega arith)
lines_of_uncut (octet ∷ line) some e = lines_of_last octet line (HasNone_missing 10 (octet ∷ line) e)

pub length_cut : (octets : List ℕ) (parts : List ℕ × List ℕ) → split_once 10 octets ≡ Some parts → length parts.1 < length octets
length_cut octets parts e =
    let size = ap length (split_once_is 10 octets parts e) in
    omega (arith, size, length-append parts.0 (10 ∷ parts.1))
