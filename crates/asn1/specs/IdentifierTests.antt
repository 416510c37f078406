-- Whether numbers are an object identifier, as a function.
use Rattle.std.specs.Prelude.{ℕ, Bool, List, ◌^◌, ◌&&◌, length, nat_le, nat_lt}
use Rattle.std.specs.List.{list_all}
use Rattle.asn1_values.specs.Identifier.{identifier_content}

-- The numbers are an object identifier: at least one, each below 2^128, with at most 63 contents octets.
abbrev pub is_identifier : List ℕ → Bool
is_identifier numbers = (nat_lt 0 (length numbers) && list_all (λ n. nat_lt n (2 ^ 128)) numbers) && nat_le (length (identifier_content numbers)) 63
