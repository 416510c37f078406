-- What the code keeps while it reads and displays the dotted form of an object identifier. No public contract uses it.
use Rattle.std.specs.Prelude.{ℕ, ◌≡◌, ◌≤◌, ◌-◌, ◌/◌, ◌%◌, ◌+◌, ◌++◌, nat_lt, if◌then◌else◌, List, [], length, take, drop, Option, None, Some, codes, decimal}
use Rattle.std.specs.Borrow.{Bor}
use Rattle.std.specs.List.{flat_map}
use Rattle.asn1_core.specs.Base128.{number_octets}
use Rattle.asn1_values.specs.Identifier.{text_numbers}

-- What is displayed for the first number, and for the others.
abbrev pub first_text : ℕ → List ℕ
first_text n = if nat_lt n 80 then decimal (n / 40) ++ (codes "." ++ decimal (n % 40)) else codes "2." ++ decimal (n - 80)

abbrev pub others_text : List ℕ → List ℕ
others_text numbers = flat_map (λ n. codes "." ++ decimal n) numbers

-- A number's encoding in base 128 is written after the first `count` octets, the octets after it stay, and it ends
-- after the first `total`, at most 63.
abbrev pub AppendsNumber : ℕ → ℕ → List ℕ → List ℕ → ℕ → Type 0
AppendsNumber count number old new total =
    let encoding = number_octets number in
    (total ≡ count + length encoding) × (total ≤ 63) × (new ≡ take count old ++ (encoding ++ drop (length encoding) (drop count old)))

-- The remaining numbers: those of the text after a dot, or none if there is no dot.
abbrev pub left_numbers : Option (Bor (List ℕ)) → Option (List ℕ)
left_numbers None = Some []
left_numbers (Some octets) = text_numbers octets.now

-- The length of the remaining text, with its dot.
abbrev pub left_size : Option (Bor (List ℕ)) → ℕ
left_size None = 0
left_size (Some octets) = length octets.now + 1
