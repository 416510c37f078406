-- Facts of Booleans, options and lists of octets that std has no lemma of.
use Rattle.std.proofs.Common.{◌≡◌, ◌<◌, ℕ, zero, suc, Bool, true, false, Some, List, [], ◌∷◌, length, take, get_or, replicate, refl, ap, lit<, arith}
use Rattle.asn1_core.specs.Base256.{IsOctets}

-- a test isn't both true and false
pub not_both : {P : Type 0} (b : Bool) → b ≡ true → b ≡ false → P
not_both b holds fails = absurd cc

pub Some_injective : {T : Type 0} (a b : T) → Some a ≡ Some b → a ≡ b
Some_injective a b e = cc

pub cons_injective : (x y : ℕ) (xs ys : List ℕ) → x ∷ xs ≡ y ∷ ys → (x ≡ y) × (xs ≡ ys)
cons_injective x y xs ys e = (cc, cc)

pub length_positive : (t : List ℕ) → (t ≡ [] → ⊥) → 0 < length t
length_positive [] none = absurd (none refl)
length_positive (x ∷ xs) none = omega arith

pub not_nil : (t : List ℕ) → 0 < length t → t ≡ [] → ⊥
not_nil t some none = omega (arith, some, ap length none)

pub take_length : (t : List ℕ) → take (length t) t ≡ t
take_length [] = refl
take_length (x ∷ xs) = ap (λ ys. x ∷ ys) (take_length xs)

pub get_or_IsOctets : (t : List ℕ) → IsOctets t → (k : ℕ) → get_or t k 0 < 256
get_or_IsOctets [] is k = lit< tt
get_or_IsOctets (x ∷ xs) is zero = is.0
get_or_IsOctets (x ∷ xs) is (suc k) = get_or_IsOctets xs is.1 k

pub IsOctets_replicate_zero : (n : ℕ) → IsOctets (replicate n 0)
IsOctets_replicate_zero zero = tt
IsOctets_replicate_zero (suc n) = (lit< tt, IsOctets_replicate_zero n)
