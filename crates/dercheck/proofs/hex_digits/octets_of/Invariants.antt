use Rattle.std.proofs.Common.{◌≡◌, ◌*◌, ◌/◌, ℕ, Bool, List, length, take, drop}
use Rattle.std.specs.Prelude.{IsErr, MatchBool}
use Rattle.hex.specs.Hex.{decode_pairs}
use Rattle.hex.proofs.Pairs.{prepend}
use Rattle.dercheck.proofs.hex_digits.octets_of.Given as goal

-- the first i octets are decoded, or the hex has an octet that is no digit
abbrev pub IsSoFar : Bool → List ℕ → List ℕ → ℕ → Type 0
IsSoFar is_hex hex octets i = MatchBool is_hex
    (decode_pairs 0 hex ≡ prepend (take i octets) (decode_pairs (2 * i) (drop (2 * i) hex)))
    (IsErr (decode_pairs 0 hex))

abbrev pub invariant-octets : goal.invariant-octets
invariant-octets l = record {
  count : length l.octets.items ≡ length l.hex / 2;
  so_far : IsSoFar l.is_hex l.hex l.octets.items l.i;
}
