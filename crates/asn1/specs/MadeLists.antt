-- Lists and sets that are made of items in hand (X.690 8.10, 8.12, 11.6).
use Rattle.std.specs.Prelude.{ℕ, ◌≡◌, ◌<◌, ◌≤◌, ◌^◌, List, [], ◌∷◌, length, map, Result, Ok, Err, if◌then◌else◌}
use Rattle.std.specs.List.{AllByRecursion}
use Rattle.std.specs.Borrow.{Bor}
use Rattle.asn1_core.specs.Base256.{IsOctets}
use Rattle.asn1_core.specs.ReadError.{ReadError}
use Rattle.asn1_core.specs.Listing.{encoding_less}
use Rattle.asn1_core.specs.Der.{Der}
use Rattle.asn1.specs.Sets.{set_left}

-- A value among values in ascending order of their encodings: it comes after those whose encodings are less.
abbrev pub place_value : {M : Type 0} → (M → List ℕ) → M → List M → List M
place_value octets m [] = m ∷ []
place_value octets m (n ∷ ns) = if encoding_less (octets n) (octets m) then n ∷ place_value octets m ns else m ∷ n ∷ ns

-- Values in ascending order of their encodings, each as often as it is there. (11.6)
abbrev pub in_order : {M : Type 0} → (M → List ℕ) → List M → List M
in_order octets [] = []
in_order octets (m ∷ ms) = place_value octets m (in_order octets ms)

-- The result is these contents octets; or an error, since there are too many of them.
abbrev pub AreContents : List ℕ → Result (Bor (List ℕ)) ReadError → Type 0
AreContents content (Ok found) = (found.now ≡ content) × IsOctets content × (length content < 2 ^ 32)
AreContents content (Err fault) = 2 ^ 32 ≤ length content

-- These contents octets of a set are of these items, which are valid and have these encodings.
abbrev pub IsMadeOf : {V : Type 0} → Der V → List ℕ → List V → List (List ℕ) → Type 0
IsMadeOf d content items encodings =
    (set_left encoding_less d.read content ≡ in_order d.encoding (map d.meaning items)) × AllByRecursion d.valid (map d.meaning items)
    × (encodings ≡ map (λ v. d.encoding (d.meaning v)) items)
