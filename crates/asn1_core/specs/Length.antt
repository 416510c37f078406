-- Lengths in the definite form, in the fewest octets (X.690 8.1.3, 10.1).
use Rattle.std.specs.Prelude.{◌≡◌, ℕ, ◌+◌, ◌-◌, ◌^◌, ◌<◌, ◌≤◌, ◌⊎◌, if◌then◌else◌, ◌==◌, ◌||◌, nat_le, nat_lt, List, [], ◌∷◌, ◌++◌, length, slice_index, take, drop, Result, Ok, Err}
use Rattle.std.specs.Int.Digits.{digits_of}
use Rattle.asn1_core.specs.declared.parser.ParseErrorKind.{ParseErrorKind}
use Rattle.asn1_core.specs.declared.parser.ParseErrorKind.TheVariants.{InvalidLength, ShortData}
use Rattle.asn1_core.specs.Base256.{IsOctets, number}

-- The octets encode this number, and no fewer octets do.
pub record IsShortest (octets : List ℕ) (n : ℕ) : Type 0 where
  pub encoding : IsOctets octets
  pub value : number octets ≡ n
  pub shortest : (other : List ℕ) → IsOctets other → number other ≡ n → length octets ≤ length other

-- The length octets of n: one octet below 128 (8.1.3.4); else 0x80 plus the count of further octets, and then the
-- fewest octets that encode n (8.1.3.5, 10.1).
abbrev pub AreLengthOctets : List ℕ → ℕ → Type 0
AreLengthOctets text n = (n < 128) × (text ≡ n ∷ [])
    ⊎ ((octets : List ℕ) × (128 ≤ n) × IsShortest octets n × (text ≡ (0x80 + length octets) ∷ octets))

-- The length octets of n, as a function: the digits of n in base 256 are the fewest octets that encode n.
unfoldable pub length_octets : ℕ → List ℕ
length_octets n = if nat_lt n 128 then n ∷ [] else (0x80 + length (digits_of 256 n)) ∷ digits_of 256 n

-- What octets begin with if a length is expected: a readable length and the remaining octets, or an error.
-- `ShortData`: too few octets. `InvalidLength`: no readable length has the first octet, or the further octets are all
-- there and with the first encode no length. At most four further octets are readable, the bound of this library.
abbrev pub IsLeadingLength : List ℕ → Result (ℕ × List ℕ) ParseErrorKind → Type 0
IsLeadingLength text (Ok found) = (found.0 < 2 ^ 32) × (text ≡ length_octets found.0 ++ found.1)
IsLeadingLength text (Err InvalidLength) = ((first : ℕ) × (rest : List ℕ) × (first ≡ 0x80 ⊎ 0x85 ≤ first) × (text ≡ first ∷ rest))
    ⊎ ((octets rest : List ℕ) × (1 ≤ length octets) × (length octets ≤ 4)
    × ((n : ℕ) → (0x80 + length octets) ∷ octets ≡ length_octets n → ⊥)
    × (text ≡ (0x80 + length octets) ∷ octets ++ rest))
IsLeadingLength text (Err (ShortData needed)) = (text ≡ []) × (needed ≡ 1)
    ⊎ ((octets : List ℕ) × (1 ≤ needed) × (length octets + needed ≤ 4) × (text ≡ (0x80 + (length octets + needed)) ∷ octets))
IsLeadingLength text (Err _) = ⊥

-- The same, as functions.
abbrev pub long_length : ℕ → List ℕ → Result (ℕ × List ℕ) ParseErrorKind
long_length count rest =
    if nat_lt (length rest) count then Err (ShortData (count - length rest))
    else if slice_index rest 0 == 0 || nat_lt (number (take count rest)) 128 then Err InvalidLength
    else Ok (number (take count rest), drop count rest)

-- What octets begin with if a length is expected, as a function: that length and the remaining octets, or the error.
unfoldable pub leading_length : List ℕ → Result (ℕ × List ℕ) ParseErrorKind
leading_length [] = Err (ShortData 1)
leading_length (first ∷ rest) =
    if nat_lt first 0x80 then Ok (first, rest)
    else if first == 0x80 || nat_le 0x85 first then Err InvalidLength
    else long_length (first - 0x80) rest
