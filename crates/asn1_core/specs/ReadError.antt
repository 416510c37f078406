-- An error of reading: its kind, and its locations, the innermost first; when two are the same; and what errors
-- display.
use Rattle.std.specs.Prelude.{◌≡◌, List, [], ◌∷◌, ◌++◌, take, Result, Ok, Err, Bool, true, false, ◌==◌, ◌&&◌, bytes_eq, ℕ, Option, Some, None, codes, decimal, option_map}
use Rattle.std.specs.Borrow.{Bor}
use Rattle.asn1_core.specs.declared.parser.ParseErrorKind.{ParseErrorKind}
use Rattle.asn1_core.specs.declared.parser.ParseErrorKind.TheVariants.{AllocationError, InvalidValue, InvalidTag, InvalidLength, InvalidSize, UnexpectedTag, ShortData, IntegerOverflow, ExtraData, InvalidSetOrdering, EncodedDefault, OidTooLong, UnknownDefinedBy}
use Rattle.asn1_core.specs.declared.parser.Place.{Place}
use Rattle.asn1_core.specs.declared.parser.ParseLocation.{ParseLocation}
use Rattle.asn1_core.specs.declared.parser.Place.TheVariants.{Field, Index}
use Rattle.asn1_core.specs.declared.parser.ParseLocation.TheVariants as locations
use Rattle.std.specs.Cmp.Lexicographic.{pointwise}
use Rattle.asn1_core.specs.Tag.{tag_eq}
use Rattle.asn1_core.specs.declared.writer.WriteError.{WriteError}
use Rattle.asn1_core.specs.declared.writer.WriteError.TheVariants as writing

-- An error: its kind, and its locations in the structures around it, the innermost first.
pub record ReadError : Type 0 where
  pub kind : ParseErrorKind
  pub places : List Place

-- An error with no location.
abbrev pub read_error : ParseErrorKind → ReadError
read_error kind = record { kind = kind; places = [] }

-- One more location around those that are there, of which the innermost eight are kept.
abbrev pub add : Place → List Place → List Place
add place places = take 8 (places ++ place ∷ [])

-- The error, with one more location around it.
abbrev pub within : Place → ReadError → ReadError
within place f = record { kind = f.kind; places = add place f.places }

-- A result of framing, whose errors have no location.
abbrev pub framed : {A : Type 0} → Result A ParseErrorKind → Result A ReadError
framed (Ok x) = Ok x
framed (Err kind) = Err (read_error kind)

-- What was read, and the remaining octets, without their address in memory.
abbrev pub with_rest : {A : Type 0} → A × Bor (List ℕ) → A × List ℕ
with_rest x = (x.0, x.1.now)

-- A call returned this result, its value seen through `view`.
abbrev pub ReturnsKind : {V A : Type 0} → (V → A) → Result V ParseErrorKind → Result A ParseErrorKind → Type 0
ReturnsKind view (Ok v) answer = answer ≡ Ok (view v)
ReturnsKind view (Err kind) answer = answer ≡ Err kind

-- A call returned this result, its value seen through `view`, or an error of that kind with no location.
abbrev pub ReturnsPlain : {V A : Type 0} → (V → A) → Result V ReadError → Result A ParseErrorKind → Type 0
ReturnsPlain view (Ok v) answer = answer ≡ Ok (view v)
ReturnsPlain view (Err e) answer = (answer ≡ Err e.kind) × (e.places ≡ [])

-- The error is one of the input, and not `AllocationError`.
abbrev pub IsOfInput : ReadError → Type 0
IsOfInput f = f.kind ≡ AllocationError → ⊥

-- A `ParseLocation` as the `Place` that is kept.
abbrev pub place_of : ParseLocation → Place
place_of (locations.Field name) = Field name.now
place_of (locations.Index i) = Index i

-- ---- when two errors are the same: their kinds are, and the locations that are kept

-- Whether two kinds are the same, with the same numbers or the same tag in them.
abbrev pub kind_eq : ParseErrorKind → ParseErrorKind → Bool
kind_eq InvalidValue InvalidValue = true
kind_eq InvalidTag InvalidTag = true
kind_eq InvalidLength InvalidLength = true
kind_eq (InvalidSize low high n) (InvalidSize low' high' n') = (low == low') && (high == high') && (n == n')
kind_eq (UnexpectedTag tag) (UnexpectedTag tag') = tag_eq tag tag'
kind_eq (ShortData n) (ShortData n') = n == n'
kind_eq IntegerOverflow IntegerOverflow = true
kind_eq ExtraData ExtraData = true
kind_eq InvalidSetOrdering InvalidSetOrdering = true
kind_eq EncodedDefault EncodedDefault = true
kind_eq OidTooLong OidTooLong = true
kind_eq UnknownDefinedBy UnknownDefinedBy = true
kind_eq AllocationError AllocationError = true
kind_eq _ _ = false

-- Whether two locations are the same: the same name, octet for octet, or the same index.
abbrev pub place_eq : Place → Place → Bool
place_eq (Field name) (Field name') = bytes_eq name name'
place_eq (Index i) (Index i') = i == i'
place_eq _ _ = false

-- Whether two errors are equal: the same kind, and one by one the same locations.
abbrev pub read_error_eq : ReadError → ReadError → Bool
read_error_eq e f = kind_eq e.kind f.kind && pointwise place_eq e.places f.places

-- ---- what errors display

-- The text of a kind. The text of an unexpected tag holds the tag's debug text, of which nothing is stated.
abbrev pub kind_text : ParseErrorKind → Option (List ℕ)
kind_text InvalidValue = Some (codes "invalid value")
kind_text InvalidTag = Some (codes "invalid tag")
kind_text InvalidLength = Some (codes "invalid length")
kind_text (InvalidSize low high n) = Some (codes "invalid container size (expected between " ++ decimal low ++ codes " and " ++ decimal high ++ codes ", got " ++ decimal n ++ codes ")")
kind_text (UnexpectedTag tag) = None
kind_text (ShortData n) = Some (codes "short data (needed at least " ++ decimal n ++ codes " additional bytes)")
kind_text IntegerOverflow = Some (codes "integer overflow")
kind_text ExtraData = Some (codes "extra data")
kind_text InvalidSetOrdering = Some (codes "SET value was ordered incorrectly")
kind_text EncodedDefault = Some (codes "DEFAULT value was explicitly encoded")
kind_text OidTooLong = Some (codes "OBJECT IDENTIFIER was too large to be stored in rust-asn1's buffer")
kind_text UnknownDefinedBy = Some (codes "DEFINED BY with unknown value")
kind_text AllocationError = Some (codes "allocation error")

-- What a `ParseError` displays: `ASN.1 parsing error: ` and the words for its kind. Nothing is said of `UnexpectedTag`.
abbrev pub error_text : ParseErrorKind → Option (List ℕ)
error_text kind = option_map (λ octets. codes "ASN.1 parsing error: " ++ octets) (kind_text kind)

-- What a `WriteError` displays.
abbrev pub write_error_text : WriteError → List ℕ
write_error_text writing.AllocationError = codes "allocation error"
write_error_text writing.InvalidSetOrdering = codes "SET elements are not in DER order"
