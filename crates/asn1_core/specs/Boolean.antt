-- BOOLEAN (X.690 8.2).
use Rattle.std.specs.Prelude.{ℕ, List, [], ◌∷◌, nat_eq, if◌then◌else◌, Result, Ok, Err, Bool, true, false}
use Rattle.asn1_core.specs.declared.parser.ParseErrorKind.TheVariants.{InvalidValue}
use Rattle.asn1_core.specs.Tag.{universal}
use Rattle.asn1_core.specs.ReadError.{ReadError, read_error}
use Rattle.asn1_core.specs.Encoding.{Content, basic}

-- The contents octets: one octet, all its bits 0 for false, all 1 for true. (X.690 8.2, 11.1)
abbrev pub bool_octets : Bool → List ℕ
bool_octets false = 0x00 ∷ []
bool_octets true = 0xff ∷ []

-- What reading contents octets returns.
abbrev pub read_bool : List ℕ → Result Bool ReadError
read_bool [] = Err (read_error InvalidValue)
read_bool (octet ∷ []) = if nat_eq octet 0x00 then Ok false else if nat_eq octet 0xff then Ok true else Err (read_error InvalidValue)
read_bool (octet ∷ next ∷ octets) = Err (read_error InvalidValue)

-- The content of BOOLEAN (8.2), with the tag 1.
abbrev pub bool_content : Content Bool
bool_content = basic (record {
  tag = universal 1;
  encoding = bool_octets;
  valid = λ m. Unit {0};
  read = read_bool;
})
