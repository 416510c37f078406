-- Numbers in base 128, as in tags and object identifiers (X.690 8.1.2.4, 8.19.2).
use Rattle.std.specs.Prelude.{◌≡◌, ℕ, ◌+◌, ◌*◌, ◌/◌, ◌%◌, ◌^◌, ◌<◌, ◌≤◌, ◌⊎◌, if◌then◌else◌, ◌==◌, ◌||◌, nat_le, List, [], ◌∷◌, ◌++◌, length, slice_index, take, drop, map, Result, Ok, Err}
use Rattle.std.specs.List.{AllByRecursion, prefix_len}
use Rattle.std.specs.Int.Digits.{digits_of}
use Rattle.asn1_core.specs.declared.parser.ParseErrorKind.{ParseErrorKind}
use Rattle.asn1_core.specs.declared.parser.ParseErrorKind.TheVariants.{InvalidValue, ShortData}

-- The number whose digits in base 128 are the low seven bits of the octets, the highest first. (8.1.2.4.2 b)
abbrev pub digits_number : List ℕ → ℕ
digits_number [] = 0
digits_number (octet ∷ octets) = octet % 128 * 128 ^ length octets + digits_number octets

-- Each octet has its top bit set, so more must come. The empty list is open too.
abbrev pub IsOpen : List ℕ → Type 0
IsOpen octets = AllByRecursion (λ octet. (128 ≤ octet) × (octet < 256)) octets

-- Each octet except the last has its top bit set. (8.1.2.4.2 a)
abbrev pub IsFinished : List ℕ → Type 0
IsFinished [] = ⊥
IsFinished (octet ∷ []) = octet < 128
IsFinished (octet ∷ next ∷ octets) = (128 ≤ octet) × (octet < 256) × IsFinished (next ∷ octets)

-- The first octet is 0x80: a leading digit of 0. (8.1.2.4.2 c)
abbrev pub BeginsWithZero : List ℕ → Type 0
BeginsWithZero octets = slice_index octets 0 ≡ 0x80

-- The octets encode n in base 128: they are finished, don't begin with 0x80, and n is below 2^128. (8.1.2.4.2, 8.19.2)
pub record AreNumberOctets (octets : List ℕ) (n : ℕ) : Type 0 where
  pub finished : IsFinished octets
  pub shortest : ¬ BeginsWithZero octets
  pub value : digits_number octets ≡ n
  pub small : n < 2 ^ 128

-- Whatever octets follow, these encode no number: they are open, and begin with 0x80 or are 19 or more; or they are
-- finished, and begin with 0x80 or give 2^128 or more.
abbrev pub IsMalformed : List ℕ → Type 0
IsMalformed octets = IsOpen octets × (BeginsWithZero octets ⊎ 19 ≤ length octets)
    ⊎ IsFinished octets × (BeginsWithZero octets ⊎ 2 ^ 128 ≤ digits_number octets)

-- What octets begin with: a number in base 128 and the remaining octets; or `InvalidValue`, if a prefix is malformed;
-- or `ShortData` with 1 needed, if all the octets are open and not malformed.
abbrev pub IsLeadingNumber : List ℕ → Result (ℕ × List ℕ) ParseErrorKind → Type 0
IsLeadingNumber text (Ok found) = (octets : List ℕ) × AreNumberOctets octets found.0 × (text ≡ octets ++ found.1)
IsLeadingNumber text (Err InvalidValue) = (octets rest : List ℕ) × IsMalformed octets × (text ≡ octets ++ rest)
IsLeadingNumber text (Err (ShortData needed)) = IsOpen text × ¬ IsMalformed text × (needed ≡ 1)
IsLeadingNumber text (Err _) = ⊥

-- The encoding of n, as a function: the digits of n in base 128, each except the last with its top bit set.
unfoldable pub number_octets : ℕ → List ℕ
number_octets n = map (λ digit. 128 + digit) (digits_of 128 (n / 128)) ++ n % 128 ∷ []

-- What octets begin with, as a function.
unfoldable pub leading_number : List ℕ → Result (ℕ × List ℕ) ParseErrorKind
leading_number text =
    let open_octets = prefix_len (λ octet. nat_le 128 octet) text in
    let octets = take (open_octets + 1) text in
    if slice_index text 0 == 0x80 || nat_le 19 open_octets then Err InvalidValue
    else if open_octets == length text then Err (ShortData 1)
    else if nat_le (2 ^ 128) (digits_number octets) then Err InvalidValue
    else Ok (digits_number octets, drop (open_octets + 1) text)
