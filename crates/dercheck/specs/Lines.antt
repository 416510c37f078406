-- Octets in parts: lines, and what is around the first octet of a value.
use Rattle.std.specs.Prelude.{ℕ, ◌≡◌, ◌≢◌, ◌⊎◌, ◌==◌, if◌then◌else◌, List, [], ◌∷◌, ◌++◌, Option, Some, None}
use Rattle.std.specs.Borrow.{Bor}
use Rattle.std.specs.List.{AllByRecursion, flat_map}

-- the two parts, with an octet before the first
abbrev pub with_octet : ℕ → Option (List ℕ × List ℕ) → Option (List ℕ × List ℕ)
with_octet octet None = None
with_octet octet (Some parts) = Some (octet ∷ parts.0, parts.1)

-- what is before and after the first octet of that value
unfoldable pub split_once : ℕ → List ℕ → Option (List ℕ × List ℕ)
split_once octet [] = None
split_once octet (next ∷ octets) = if next == octet then Some ([], octets) else with_octet next (split_once octet octets)

-- two slices as lists of octets
abbrev pub option_split : Option (Bor (List ℕ) × Bor (List ℕ)) → Option (List ℕ × List ℕ)
option_split None = None
option_split (Some parts) = Some (parts.0.now, parts.1.now)

-- the lines, with an octet before the first
abbrev pub in_first_line : ℕ → List (List ℕ) → List (List ℕ)
in_first_line octet [] = (octet ∷ []) ∷ []
in_first_line octet (line ∷ lines) = (octet ∷ line) ∷ lines

-- The lines of an input: a line feed ends one, and the octets after the last line feed are one unless there are none.
unfoldable pub lines_of : List ℕ → List (List ℕ)
lines_of [] = []
lines_of (octet ∷ octets) = if octet == 10 then [] ∷ lines_of octets else in_first_line octet (lines_of octets)

-- ---- what lines are

abbrev pub HasNone : ℕ → List ℕ → Type 0
HasNone octet octets = AllByRecursion (λ next. next ≢ octet) octets

-- each line with a line feed after it
abbrev pub ended : List (List ℕ) → List ℕ
ended lines = flat_map (λ line. line ++ 10 ∷ []) lines

-- the last line has no line feed after it, and isn't empty
pub record LacksLast (octets : List ℕ) (lines : List (List ℕ)) : Type 0 where
  pub front : List (List ℕ)
  pub last : List ℕ
  pub are : lines ≡ front ++ last ∷ []
  pub some : last ≢ []
  pub is : octets ≡ ended front ++ last

-- The lines hold no line feed, and with a line feed after each they are the input, which may lack the last one.
pub record AreLines (octets : List ℕ) (lines : List (List ℕ)) : Type 0 where
  pub apart : AllByRecursion (HasNone 10) lines
  pub whole : (octets ≡ ended lines) ⊎ LacksLast octets lines
