-- Lists of octets.
use Rattle.std.proofs.Common.{ℕ, suc, ◌<◌, List, [], ◌∷◌, ◌++◌, get_or}
use Rattle.asn1_core.specs.Base256.{IsOctets}

pub IsOctets_prefix : (a b : List ℕ) → IsOctets (a ++ b) → IsOctets a
IsOctets_prefix [] b is = tt
IsOctets_prefix (x ∷ xs) b is = (is.0, IsOctets_prefix xs b is.1)

pub IsOctets_suffix : (a b : List ℕ) → IsOctets (a ++ b) → IsOctets b
IsOctets_suffix [] b is = is
IsOctets_suffix (x ∷ xs) b is = IsOctets_suffix xs b is.1

pub IsOctets_append : (a b : List ℕ) → IsOctets a → IsOctets b → IsOctets (a ++ b)
IsOctets_append [] b f g = g
IsOctets_append (x ∷ xs) b f g = (f.0, IsOctets_append xs b f.1 g)

-- Octets that are each below 256, as a slice of them is known to be.
pub IsOctets_from_reads : (octets : List ℕ) → ((i : ℕ) → get_or octets i 0 < 256) → IsOctets octets
IsOctets_from_reads [] each = tt
IsOctets_from_reads (x ∷ xs) each = (each 0, IsOctets_from_reads xs (λ i. each (suc i)))
