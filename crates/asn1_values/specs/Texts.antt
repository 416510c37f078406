-- Character strings (X.690 8.23): the contents octets are the octets of the characters, and each type has a rule that
-- says which octets these may be (X.680 41).
use Rattle.std.specs.Prelude.{ℕ, ◌%◌, ◌≡◌, Bool, true, not, if◌then◌else◌, ◌&&◌, ◌||◌, nat_eq, List, [], ◌∷◌, length, codes, Result, Ok, Err}
use Rattle.std.specs.Char.{is_ascii, is_ascii_alphanumeric}
use Rattle.std.specs.Char.Utf16.{has_unpaired_surrogate}
use Rattle.std.specs.Int.{is_in_range}
use Rattle.std.specs.List.{list_any, list_all}
use Rattle.std.specs.Str.{is_utf8, all_scalars}
use Rattle.asn1_core.specs.declared.parser.ParseErrorKind.TheVariants.{InvalidValue}
use Rattle.asn1_core.specs.ReadError.{ReadError, read_error}
use Rattle.asn1_core.specs.Base256.{number}

-- Letters, digits, space and ' ( ) + , - . / : = ? (X.680 41.4).
abbrev pub is_printable : ℕ → Bool
is_printable octet = is_ascii_alphanumeric octet || list_any (nat_eq octet) (codes " '()+,-./:=?")

-- PrintableString: each octet is one of these characters.
abbrev pub is_printable_text : List ℕ → Bool
is_printable_text octets = list_all is_printable octets

-- IA5String: each octet is ASCII.
abbrev pub is_ia5_text : List ℕ → Bool
is_ia5_text octets = list_all is_ascii octets

-- VisibleString: each octet is ASCII, and no control character.
abbrev pub is_visible_text : List ℕ → Bool
is_visible_text octets = list_all (is_in_range 0x20 0x7e) octets

-- UTF8String: the octets are UTF-8.
abbrev pub is_utf8_text : List ℕ → Bool
is_utf8_text octets = is_utf8 octets

-- The numbers that the octets encode in pairs.
abbrev pub pairs : List ℕ → List ℕ
pairs (a ∷ b ∷ octets) = number (a ∷ b ∷ []) ∷ pairs octets
pairs octets = []

-- The surrogates among units of two octets come in pairs, high before low.
abbrev pub is_paired : List ℕ → Bool
is_paired octets = not (has_unpaired_surrogate (pairs octets))

-- BMPString: the octets are UTF-16, the most significant octet of a unit first.
abbrev pub is_utf16_text : List ℕ → Bool
is_utf16_text octets = nat_eq (length octets % 2) 0 && is_paired octets

-- The numbers that the octets encode in fours.
abbrev pub fours : List ℕ → List ℕ
fours (a ∷ b ∷ c ∷ d ∷ octets) = number (a ∷ b ∷ c ∷ d ∷ []) ∷ fours octets
fours octets = []

-- UniversalString: each four octets are the number of a character, a Unicode scalar value.
abbrev pub is_utf32_text : List ℕ → Bool
is_utf32_text octets = nat_eq (length octets % 4) 0 && all_scalars (fours octets)

-- The octets follow the rule of their type.
abbrev pub IsTextOf : (List ℕ → Bool) → List ℕ → Type 0
IsTextOf rule octets = rule octets ≡ true

-- Contents octets that follow the rule are read unchanged.
abbrev pub read_text : (List ℕ → Bool) → List ℕ → Result (List ℕ) ReadError
read_text rule octets = if rule octets then Ok octets else Err (read_error InvalidValue)
