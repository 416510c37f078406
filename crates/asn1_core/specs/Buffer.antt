-- What callers see of a buffer.
use Rattle.std.specs.Prelude.{◌≡◌, ℕ, List, ◌++◌, length, drop}

-- The octets that a buffer holds, and how many more it takes without growing.
pub record Buffer : Type 0 where
  pub bytes : List ℕ
  pub room : ℕ

-- Octets that `texts` allows were appended.
pub record Appends (encodings : List ℕ → Type 0) (old new : List ℕ) : Type 0 where
  pub encoding : List ℕ
  pub is_one : encodings encoding
  pub joined : new ≡ old ++ encoding

-- The octets that were there are still a prefix.
pub record KeepsPrefix (old new : List ℕ) : Type 0 where
  pub joined : new ≡ old ++ drop (length old) new
