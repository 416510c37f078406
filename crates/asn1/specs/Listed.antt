-- Lists of numbers, and what reading one of these numbers returns.
use Rattle.std.specs.Prelude.{ℕ, ℤ, pos, negsuc, ◌-ℤ◌, ◌≤ℤ◌, ◌^◌, ◌≡◌, List, [], ◌∷◌, Bool, true, false, nat_eq, ◌||◌, if◌then◌else◌, Option, Some, None, Result, Ok, Err}
use Rattle.asn1_core.specs.declared.parser.ParseErrorKind.TheVariants.{InvalidValue}
use Rattle.asn1_core.specs.ReadError.{ReadError, read_error}
use Rattle.asn1_core.specs.Element.{◌>>=◌}
use Rattle.asn1_core.specs.declared.tag.Tag.{Tag}
use Rattle.asn1_core.specs.Integer.{integer_content, read_sized}
use Rattle.asn1_core.specs.Encoding.{Content, basic}

-- The largest number.
abbrev pub largest : ℤ
largest = pos (2 ^ 32) -ℤ pos 1

-- Whether the list has the number.
abbrev pub lists : List ℕ → ℕ → Bool
lists [] n = false
lists (m ∷ numbers) n = nat_eq m n || lists numbers n

-- Of values in the order of their numbers, the first with this number.
abbrev pub value_with : {V : Type 0} → List ℕ → List V → ℕ → Option V
value_with (m ∷ numbers) (v ∷ values) n = if nat_eq m n then Some v else value_with numbers values n
value_with _ _ n = None

abbrev pub IsListed : List ℕ → ℤ → Type 0
IsListed numbers (pos n) = lists numbers n ≡ true
IsListed numbers (negsuc n) = ⊥

-- Rejects a number that the list hasn't.
abbrev pub if_listed : List ℕ → ℤ → Result ℤ ReadError
if_listed numbers (pos n) = if lists numbers n then Ok (pos n) else Err (read_error InvalidValue)
if_listed numbers (negsuc n) = Err (read_error InvalidValue)

-- What reading contents octets returns: a number of the list, or the first error of reading one of 32 bits.
abbrev pub read_listed : List ℕ → List ℕ → Result ℤ ReadError
read_listed numbers c = read_sized (pos 0) largest c >>= if_listed numbers

-- The numbers of this list, with the contents octets of an integer.
abbrev pub numbered_content : Tag → List ℕ → Content ℤ
numbered_content tag numbers = basic (record {
  tag = tag;
  encoding = integer_content;
  valid = λ z. ((pos 0 ≤ℤ z) × (z ≤ℤ largest)) × IsListed numbers z;
  read = read_listed numbers;
})
