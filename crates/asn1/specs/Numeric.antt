-- The characters of a NumericString (X.680 41).
use Rattle.std.specs.Prelude.{ℕ, Bool, List, ◌||◌, nat_eq}
use Rattle.std.specs.Int.{is_in_range}
use Rattle.std.specs.List.{list_all}

-- A digit or a space (X.680 41.2, table 9).
abbrev pub is_numeric : ℕ → Bool
is_numeric octet = is_in_range 0x30 0x39 octet || nat_eq octet 0x20

-- NumericString: each octet is one of these characters.
abbrev pub is_numeric_text : List ℕ → Bool
is_numeric_text octets = list_all is_numeric octets
