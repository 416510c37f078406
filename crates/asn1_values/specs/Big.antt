-- Integers of any length (X.690 8.3).
use Rattle.std.specs.Prelude.{ℕ, ◌<◌, ◌≡◌, true, ℤ, pos, ◌≤ℤ◌, int_lt, unsigned_abs, if◌then◌else◌, List, length, slice_index, Result, Ok, Err}
use Rattle.std.specs.Int.Digits.{digits_of}
use Rattle.asn1_core.specs.declared.parser.ParseErrorKind.TheVariants.{InvalidValue}
use Rattle.asn1_core.specs.Base256.{signed_number}
use Rattle.asn1_core.specs.Element.{◌>>=◌}
use Rattle.asn1_core.specs.ReadError.{ReadError, read_error}
use Rattle.asn1_core.specs.Integer.{IsIntegerContent, is_minimal, read_integer}

-- The octets are the contents octets of a number.
abbrev pub IsSigned : List ℕ → Type 0
IsSigned octets = IsIntegerContent octets (signed_number octets)

-- The octets are the contents octets of a number that isn't negative.
abbrev pub IsUnsigned : List ℕ → Type 0
IsUnsigned octets = IsSigned octets × (pos 0 ≤ℤ signed_number octets)

-- The same of the octets of a Rust value, by the test of the first nine bits.
abbrev pub IsSignedForm : List ℕ → Type 0
IsSignedForm octets = (is_minimal octets ≡ true) × ((k : ℕ) → slice_index octets k < 256)

-- The same of a number that isn't negative: the top bit of the first octet is 0.
abbrev pub IsUnsignedForm : List ℕ → Type 0
IsUnsignedForm octets = IsSignedForm octets × (slice_index octets 0 < 0x80)

-- How many binary digits the absolute value has: none for 0.
abbrev pub bit_count : ℤ → ℕ
bit_count z = length (digits_of 2 (unsigned_abs z))

-- The number, or `InvalidValue` if the number is negative.
abbrev pub not_negative : ℤ → Result ℤ ReadError
not_negative z = if int_lt z (pos 0) then Err (read_error InvalidValue) else Ok z

-- The number of contents octets; `InvalidValue` if it is negative, or if they are not minimal.
unfoldable pub read_unsigned : List ℕ → Result ℤ ReadError
read_unsigned c = read_integer c >>= not_negative
