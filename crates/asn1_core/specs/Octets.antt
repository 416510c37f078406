-- OCTET STRING and NULL (X.690 8.7, 8.8). The value of an octet string is its octets, without their address in memory.
use Rattle.std.specs.Prelude.{ℕ, ◌≡◌, List, [], ◌∷◌, length, nat_eq, if◌then◌else◌, Result, Ok, Err}
use Rattle.asn1_core.specs.declared.parser.ParseErrorKind.TheVariants.{InvalidValue}
use Rattle.asn1_core.specs.Base256.{IsOctets}
use Rattle.asn1_core.specs.Tag.{universal}
use Rattle.asn1_core.specs.ReadError.{ReadError, read_error}
use Rattle.asn1_core.specs.Encoding.{Content, basic}

-- Any octets are the contents octets of an octet string, and are its value. (X.690 8.7)
abbrev pub read_octets : List ℕ → Result (List ℕ) ReadError
read_octets c = Ok c

-- The same, of one size.
abbrev pub read_sized_octets : ℕ → List ℕ → Result (List ℕ) ReadError
read_sized_octets size c = if nat_eq (length c) size then Ok c else Err (read_error InvalidValue)

-- Null has no contents octets. (X.690 8.8)
abbrev pub read_null : List ℕ → Result (Unit {0}) ReadError
read_null [] = Ok tt
read_null (octet ∷ octets) = Err (read_error InvalidValue)

-- The contents octets of an octet string are its octets. (X.690 8.7)
abbrev pub octets_content : Content (List ℕ)
octets_content = basic (record {
  tag = universal 4;
  encoding = λ octets. octets;
  valid = IsOctets;
  read = read_octets;
})

-- An octet string of a fixed size.
abbrev pub sized_octets_content : ℕ → Content (List ℕ)
sized_octets_content size = basic (record {
  tag = universal 4;
  encoding = λ octets. octets;
  valid = λ octets. IsOctets octets × (length octets ≡ size);
  read = read_sized_octets size;
})

-- The content of null.
abbrev pub null_content : Content (Unit {0})
null_content = basic (record {
  tag = universal 5;
  encoding = λ m. [];
  valid = λ m. Unit {0};
  read = read_null;
})
