-- The location of an error, in the words of the documents.
use Rattle.std.specs.Prelude.{ℕ, ◌≡◌, ◌-◌, ◌^◌, min, ◌==◌, Bool, false, if◌then◌else◌, List, [], ◌∷◌, ◌++◌, length, take, drop, map, reverse, Option, Some, None, unwrap_or, Result, Ok, Err, codes, decimal}
use Rattle.std.specs.Char.{to_ascii_uppercase}
use Rattle.std.specs.List.{after_last, join_with_byte}
use Rattle.std.specs.Str.{bytes_eq}
use Rattle.asn1.specs.declared.Place.{Place}
use Rattle.asn1.specs.declared.Place.TheVariants.{Field, Index}
use Rattle.asn1.specs.ReadError.{ReadError}

-- The octet `:`.
abbrev pub colon : ℕ
colon = 58

-- The octet `.`.
abbrev pub point : ℕ
point = 46

-- The octet `_`.
abbrev pub underscore : ℕ
underscore = 95

-- What is left of an octet of a name: nothing of `_`, and else the octet or its capital.
abbrev pub letter : Bool → ℕ → List ℕ
letter is_capital octet = if octet == underscore then [] else ((if is_capital then to_ascii_uppercase octet else octet) ∷ [])

-- A name without `_`, with a capital after each.
abbrev pub in_capitals : Bool → List ℕ → List ℕ
in_capitals is_capital [] = []
in_capitals is_capital (octet ∷ name) = letter is_capital octet ++ in_capitals (octet == underscore) name

-- The names in the documents that have other capitals than the words of their fields.
abbrev pub other_name : List ℕ → Option (List ℕ)
other_name field =
    if bytes_eq field (codes "ca") then Some (codes "cA") else
    if bytes_eq field (codes "crl_issuer") then Some (codes "cRLIssuer") else
    if bytes_eq field (codes "extn_id") then Some (codes "extnID") else
    if bytes_eq field (codes "issuer_unique_id") then Some (codes "issuerUniqueID") else
    if bytes_eq field (codes "subject_pk_info") then Some (codes "subjectPKInfo") else
    if bytes_eq field (codes "subject_unique_id") then Some (codes "subjectUniqueID") else
    if bytes_eq field (codes "type_id") then Some (codes "type") else
    None

-- The name of a field in the documents.
abbrev pub document_name : List ℕ → List ℕ
document_name field = unwrap_or (other_name field) (in_capitals false field)

-- The text of a location: the number of an item, or the name of a field, which an error has after that of its struct.
abbrev pub place_text : Place → List ℕ
place_text (Index index) = decimal index
place_text (Field name) = document_name (after_last (λ octet. octet == colon) name)

-- The text of an error's locations: the outermost first, with points between.
abbrev pub location_text : List Place → List ℕ
location_text places = join_with_byte point (map place_text (reverse places))

-- The same, cut after as many octets as a count can be.
abbrev pub shown_location : List Place → List ℕ
shown_location places = take (2 ^ 64 - 1) (location_text places)

-- The location that is told of a result: that of its error, if it has one.
abbrev pub told_location : {A : Type 0} → Result A ReadError → List ℕ
told_location (Ok value) = []
told_location (Err fault) = shown_location fault.places

-- ---- how a text grows in a buffer

-- A buffer begins with a text, as far as it has room, and behind the text it holds what it held before. The count is
-- how many octets the text has, or the greatest count.
pub record Holds (text old buffer : List ℕ) (count : ℕ) : Type 0 where
  pub octets : buffer ≡ take (length old) text ++ drop (length text) old
  pub counted : count ≡ min (2 ^ 64 - 1) (length text)

-- A call appends a text to the one that a buffer holds.
abbrev pub Appends : List ℕ → List ℕ → ℕ → List ℕ → ℕ → Type 0
Appends octets buffer count buffer' count' = (front old : List ℕ) → Holds front old buffer count → Holds (front ++ octets) old buffer' count'
