-- Two lists whose items mean the same, item for item.
use Rattle.std.proofs.Common.{◌≡◌, List, [], ◌∷◌, ap}

abbrev head_or : {M : Type 0} → M → List M → M
head_or m [] = m
head_or m (n ∷ ms) = n

abbrev others : {M : Type 0} → List M → List M
others [] = []
others (m ∷ ms) = ms

pub cons_injective_head : {M : Type 0} (m n : M) (ms ns : List M) → (m ∷ ms) ≡ (n ∷ ns) → m ≡ n
cons_injective_head m n ms ns e = ap (head_or m) e

pub cons_injective_tail : {M : Type 0} (m n : M) (ms ns : List M) → (m ∷ ms) ≡ (n ∷ ns) → ms ≡ ns
cons_injective_tail m n ms ns e = ap others e
