-- What holds of all octets: they have one result, which stays the same for longer input unless it is `ShortData`; and
-- worked examples.
use Rattle.std.specs.Prelude.{◌≡◌, ℕ, ◌^◌, ◌<◌, List, ◌++◌, length, Result, Ok, Err, true, [], ◌∷◌, replicate}
use Rattle.std.specs.List.{AllByRecursion, flat_map}
use Rattle.asn1_core.specs.declared.parser.ParseErrorKind.{ParseErrorKind}
use Rattle.asn1_core.specs.declared.parser.ParseErrorKind.TheVariants.{ShortData, InvalidValue, InvalidTag, InvalidLength, UnexpectedTag, ExtraData}
use Rattle.asn1_core.specs.Base256.{IsOctets}
use Rattle.asn1_core.specs.Base128.{AreNumberOctets, number_octets}
use Rattle.asn1_core.specs.Length.{AreLengthOctets, length_octets}
use Rattle.asn1_core.specs.Element.{Element, element_encoding, IsReadable, leading_element, element}
use Rattle.asn1_core.specs.declared.parser.Place.TheVariants.{Index}
use Rattle.asn1_core.specs.Tag.{universal, leading_tag, identifier_octets}
use Rattle.asn1_core.specs.ReadError.{read_error, within}
use Rattle.asn1_core.specs.Reading.{whole}
use Rattle.asn1_core.specs.Boolean.{bool_content}
use Rattle.asn1_core.specs.Encoding.{simple_encoding}

-- On any octets a relation allows the function's result and no other.
abbrev pub IsComputed : {A : Type 0} → (List ℕ → A → Type 0) → (List ℕ → A) → Type 0
IsComputed {A} relation function =
    ((octets : List ℕ) → IsOctets octets → relation octets (function octets))
    × ((octets : List ℕ) (answer : A) → IsOctets octets → relation octets answer → function octets ≡ answer)

-- Each number below 2 ^ 128 has one encoding in base 128.
abbrev pub NumbersHaveOneEncoding : Type 0
NumbersHaveOneEncoding = ((n : ℕ) → n < 2 ^ 128 → AreNumberOctets (number_octets n) n)
    × ((octets : List ℕ) (n : ℕ) → AreNumberOctets octets n → octets ≡ number_octets n)

-- Each length has one encoding.
abbrev pub LengthsHaveOneEncoding : Type 0
LengthsHaveOneEncoding = ((n : ℕ) → AreLengthOctets (length_octets n) n)
    × ((octets : List ℕ) (n : ℕ) → AreLengthOctets octets n → octets ≡ length_octets n)

-- The result is `ShortData`.
abbrev pub IsShort : {A : Type 0} → Result A ParseErrorKind → Type 0
IsShort (Err (ShortData needed)) = Unit {0}
IsShort _ = ⊥

-- The same result, with more remaining octets.
abbrev pub with_more : {A : Type 0} → Result (A × List ℕ) ParseErrorKind → List ℕ → Result (A × List ℕ) ParseErrorKind
with_more (Ok found) more = Ok (found.0, found.1 ++ more)
with_more (Err kind) more = Err kind

-- A result other than `ShortData` stays the same for every longer input, with more remaining octets.
abbrev pub ResultsStay : Type 0
ResultsStay = (octets more : List ℕ) → IsOctets (octets ++ more) → ¬ IsShort (leading_element octets) → leading_element (octets ++ more) ≡ with_more (leading_element octets) more

-- After fewer further octets than are needed the result is still `ShortData`.
abbrev pub FewerAreShort : Type 0
FewerAreShort = (octets more : List ℕ) (needed : ℕ) → IsOctets (octets ++ more) → leading_element octets ≡ Err (ShortData needed)
    → length more < needed → IsShort (leading_element (octets ++ more))

-- A proper prefix of an element's encoding gives `ShortData`.
abbrev pub ProperPrefixesAreShort : Type 0
ProperPrefixesAreShort = (e : Element) (octets more : List ℕ) → IsReadable e → IsOctets e.content
    → element_encoding e ≡ octets ++ more → 0 < length more → IsShort (leading_element octets)

-- No element is a proper prefix of another: octets are an element and further octets in at most one way.
abbrev pub ElementsAreApart : Type 0
ElementsAreApart = (e f : Element) (rest other : List ℕ) → IsReadable e → IsReadable f
    → element_encoding e ++ rest ≡ element_encoding f ++ other → (e ≡ f) × (rest ≡ other)

-- A concatenation of elements can be cut into elements in one way only.
abbrev pub JoinsHaveOneCutting : Type 0
JoinsHaveOneCutting = (es fs : List Element) → AllByRecursion IsReadable es → AllByRecursion IsReadable fs
    → flat_map element_encoding es ≡ flat_map element_encoding fs → es ≡ fs

-- ---- worked examples: what given octets begin with, and how a length, a tag and a value are encoded

-- Worked examples of what octets begin with.
pub record LeadingElements : Type 0 where
  pub nothing : leading_element [] ≡ Err (ShortData 1)
  pub octets : leading_element (0x04 ∷ 0x03 ∷ 0x61 ∷ 0x62 ∷ 0x63 ∷ 0x00 ∷ []) ≡ Ok (element (universal 4) (0x61 ∷ 0x62 ∷ 0x63 ∷ []), 0x00 ∷ [])
  pub cut_content : leading_element (0x04 ∷ 0x03 ∷ 0x61 ∷ 0x62 ∷ []) ≡ Err (ShortData 1)
  pub cut_length : leading_element (0x04 ∷ 0x82 ∷ 0x00 ∷ []) ≡ Err (ShortData 1)
  pub long_length : leading_element (0x04 ∷ 0x82 ∷ 0x00 ∷ 0x10 ∷ []) ≡ Err InvalidLength
  pub indefinite_length : leading_element (0x01 ∷ 0x80 ∷ []) ≡ Err InvalidLength
  pub open_tag : leading_element (0x1f ∷ 0x90 ∷ 0x80 ∷ 0x80 ∷ 0x80 ∷ 0x80 ∷ []) ≡ Err (ShortData 1)
  pub large_tag : leading_element (0x1f ∷ 0x90 ∷ 0x80 ∷ 0x80 ∷ 0x80 ∷ 0x80 ∷ 0x00 ∷ []) ≡ Err InvalidTag

-- Worked examples of tags: the largest number that is read, and malformed ones.
pub record Tags : Type 0 where
  pub largest : leading_tag (0x1f ∷ 0x8f ∷ 0xff ∷ 0xff ∷ 0xff ∷ 0x7f ∷ []) ≡ Ok (universal 4294967295, [])
  pub small_in_long_form : leading_tag (0x1f ∷ 0x1e ∷ []) ≡ Err InvalidTag
  pub leading_zero : leading_tag (0x1f ∷ 0x80 ∷ []) ≡ Err InvalidTag
  pub eighteen_octets : leading_tag (0x1f ∷ replicate 18 0xff) ≡ Err (ShortData 1)
  pub nineteen_octets : leading_tag (0x1f ∷ (replicate 18 0xff ++ 0x00 ∷ [])) ≡ Err InvalidTag
  pub encoding : identifier_octets (universal 16385) ≡ 0x1f ∷ 0x81 ∷ 0x80 ∷ 0x01 ∷ []

-- Worked examples of lengths, in the short and the long form.
pub record Lengths : Type 0 where
  pub short : length_octets 127 ≡ 0x7f ∷ []
  pub long : length_octets 128 ≡ 0x81 ∷ 0x80 ∷ []
  pub two_octets : length_octets 256 ≡ 0x82 ∷ 0x01 ∷ 0x00 ∷ []
  pub three_octets : length_octets 65536 ≡ 0x83 ∷ 0x01 ∷ 0x00 ∷ 0x00 ∷ []
  pub not_readable : length_octets (2 ^ 32) ≡ 0x85 ∷ 0x01 ∷ 0x00 ∷ 0x00 ∷ 0x00 ∷ 0x00 ∷ []

-- Worked examples of Booleans: their encodings, and an octet that is none.
pub record Booleans : Type 0 where
  pub encoding : (simple_encoding bool_content).encoding true ≡ 0x01 ∷ 0x01 ∷ 0xff ∷ []
  pub read : whole ((simple_encoding bool_content).read (0x01 ∷ 0x01 ∷ 0xff ∷ [])) ≡ Ok true
  pub other_octet : whole ((simple_encoding bool_content).read (0x01 ∷ 0x01 ∷ 0x01 ∷ [])) ≡ Err (read_error InvalidValue)
  pub other_tag : whole ((simple_encoding bool_content).read (0x02 ∷ 0x01 ∷ 0x05 ∷ [])) ≡ Err (read_error (UnexpectedTag (universal 2)))
  pub rest : whole ((simple_encoding bool_content).read (0x01 ∷ 0x01 ∷ 0xff ∷ 0x00 ∷ [])) ≡ Err (read_error ExtraData)

-- Locations are given from the innermost outward: of nine, the innermost eight are kept.
pub record Places : Type 0 where
  pub three : (within (Index 3) (within (Index 2) (within (Index 1) (read_error ExtraData)))).places ≡ Index 1 ∷ Index 2 ∷ Index 3 ∷ []
  pub eight : (within (Index 8) (within (Index 7) (within (Index 6) (within (Index 5) (within (Index 4) (within (Index 3) (within (Index 2) (within (Index 1) (read_error ExtraData))))))))).places ≡ Index 1 ∷ Index 2 ∷ Index 3 ∷ Index 4 ∷ Index 5 ∷ Index 6 ∷ Index 7 ∷ Index 8 ∷ []
  pub nine : (within (Index 9) (within (Index 8) (within (Index 7) (within (Index 6) (within (Index 5) (within (Index 4) (within (Index 3) (within (Index 2) (within (Index 1) (read_error ExtraData)))))))))).places ≡ Index 1 ∷ Index 2 ∷ Index 3 ∷ Index 4 ∷ Index 5 ∷ Index 6 ∷ Index 7 ∷ Index 8 ∷ []
