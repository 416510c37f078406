-- What the code keeps while it counts the binary digits of an integer of any length. No public contract uses it.
use Rattle.std.specs.Prelude.{ℕ, ◌-◌, ◌^◌, ◌<◌, ◌≡◌, ◌⊎◌, Bool, true, false, unsigned_abs, List, length, slice_index}
use Rattle.asn1_core.specs.Base256.{IsOctets, number, signed_number}

-- The absolute value of the number that octets encode: a negative one in two's complement, or an unsigned one.
abbrev pub magnitude : Bool → List ℕ → ℕ
magnitude true octets = 256 ^ length octets - number octets
magnitude false octets = number octets

-- These octets encode the absolute value of the number of contents octets, and the first of these octets adds to that
-- value. Whether the number is negative is given.
pub record IsMagnitude (content octets : List ℕ) (is_negative : Bool) : Type 0 where
  pub value : unsigned_abs (signed_number content) ≡ magnitude is_negative octets
  pub encoding : IsOctets octets
  pub counts : 0 < length octets → ((is_negative ≡ false) × (0 < slice_index octets 0)) ⊎ ((is_negative ≡ true) × (slice_index octets 0 < 0xff))
