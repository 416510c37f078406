-- Integers and their contents octets (X.690 8.3).
use Rattle.std.specs.Prelude.{ℕ, zero, suc, ◌+◌, ◌-◌, ◌*◌, ◌/◌, ◌<◌, ◌≡◌, ◌↔◌, ℤ, pos, negsuc, Bool, true, false, not, ◌||◌, ◌==◌, if◌then◌else◌, nat_le, int_lt, List, [], ◌∷◌, length, map, Result, Ok, Err}
use Rattle.std.specs.Int.Digits.{digits_of}
use Rattle.asn1_core.specs.declared.parser.ParseErrorKind.{ParseErrorKind}
use Rattle.asn1_core.specs.declared.parser.ParseErrorKind.TheVariants.{InvalidValue, IntegerOverflow}
use Rattle.asn1_core.specs.Base256.{IsOctets, signed_number}
use Rattle.asn1_core.specs.Element.{◌>>=◌}
use Rattle.asn1_core.specs.ReadError.{ReadError, read_error}

-- The contents octets of a number: the fewest octets, at least one, with this signed number. (8.3.1, 8.3.2, 8.3.3)
pub record IsIntegerContent (c : List ℕ) (z : ℤ) : Type 0 where
  pub octets : IsOctets c
  pub some : 0 < length c
  pub value : signed_number c ≡ z
  pub shortest : (t : List ℕ) → IsOctets t → 0 < length t → length t < length c → signed_number t ≡ z → ⊥

-- The bits of an octet and the top bit of the next, as a number.
abbrev pub nine_bits : ℕ → ℕ → ℕ
nine_bits octet next = octet * 2 + next / 0x80

-- There is one octet; or more, and the first nine bits are neither all zero nor all one. (8.3.2)
abbrev pub is_minimal : List ℕ → Bool
is_minimal [] = false
is_minimal (octet ∷ []) = true
is_minimal (octet ∷ next ∷ octets) = not (nine_bits octet next == 0 || nine_bits octet next == 0x1ff)

-- Digits, after an octet 0x00 if there is no digit or if the top bit is set, which would be the sign.
abbrev pub with_sign : List ℕ → List ℕ
with_sign [] = 0x00 ∷ []
with_sign (octet ∷ octets) = if nat_le 0x80 octet then 0x00 ∷ octet ∷ octets else octet ∷ octets

-- Octets with each bit inverted.
abbrev pub turned : List ℕ → List ℕ
turned octets = map (λ octet. 0xff - octet) octets

-- The contents octets of a number, as a function: its digits in base 256 with a sign; for -n - 1, the contents octets
-- of n with each bit inverted. (8.3.3)
unfoldable pub integer_content : ℤ → List ℕ
integer_content (pos n) = with_sign (digits_of 256 n)
integer_content (negsuc n) = turned (with_sign (digits_of 256 n))

-- The number that contents octets encode, or the error if they encode none.
unfoldable pub read_integer : List ℕ → Result ℤ ReadError
read_integer c = if is_minimal c then Ok (signed_number c) else Err (read_error InvalidValue)

-- The error of a number below the lowest of a type: an unsigned type, whose lowest is 0, has no sign.
abbrev pub below : ℤ → ParseErrorKind
below (pos low) = InvalidValue
below (negsuc low) = IntegerOverflow

-- A number of a type with the numbers from low to high, or the error of a number beyond them.
abbrev pub within_range : ℤ → ℤ → ℤ → Result ℤ ReadError
within_range low high z = if int_lt z low then Err (read_error (below low)) else if int_lt high z then Err (read_error IntegerOverflow) else Ok z

-- The number that contents octets encode, for a type with the numbers from low to high.
unfoldable pub read_sized : ℤ → ℤ → List ℕ → Result ℤ ReadError
read_sized low high c = read_integer c >>= within_range low high

-- Each number has contents octets, those of the function, and no others.
abbrev pub NumbersHaveOneContent : Type 0
NumbersHaveOneContent = ((z : ℤ) → IsIntegerContent (integer_content z) z)
    × ((c : List ℕ) (z : ℤ) → IsIntegerContent c z → c ≡ integer_content z)

-- Reading returns the number of contents octets, and rejects all other octets.
abbrev pub ReadsContentsAlone : Type 0
ReadsContentsAlone = (c : List ℕ) (z : ℤ) → IsOctets c → (read_integer c ≡ Ok z) ↔ IsIntegerContent c z

-- Two or more octets have a superfluous first one exactly if their first nine bits are all zero or all one: then the
-- octets after the first have the same signed number.
abbrev pub NineBitsTell : Type 0
NineBitsTell = (octet next : ℕ) (octets : List ℕ) → IsOctets (octet ∷ next ∷ octets)
    → (is_minimal (octet ∷ next ∷ octets) ≡ false) ↔ (signed_number (octet ∷ next ∷ octets) ≡ signed_number (next ∷ octets))

-- Rejects 0, for a type without it.
abbrev pub unless_zero : ℤ → Result ℤ ReadError
unless_zero (pos zero) = Err (read_error InvalidValue)
unless_zero (pos (suc n)) = Ok (pos (suc n))
unless_zero (negsuc n) = Ok (negsuc n)
