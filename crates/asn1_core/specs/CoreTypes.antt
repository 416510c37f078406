-- What the types of this crate mean: their data, and last the laws of these.
use Rattle.std.specs.Prelude.{ℕ, ◌-◌, ◌^◌, ℤ, pos, ◌-ℤ◌, neg_ℤ}
use Rattle.asn1_core.specs.Tag.{universal}
use Rattle.asn1_core.specs.Sized.{sized_content, non_zero_content}
use Rattle.asn1_core.specs.Boxed.{boxed_encoding}
use Rattle.asn1_core.specs.Der.{Der, encoding_of, der_of, simple_der}
use Rattle.asn1_core.specs.LawsOf.Encodings.{boxed_laws}
use Rattle.asn1_core.specs.LawsOf.Contents.{sized_laws, non_zero_laws}

-- A type with the signed numbers of this many bits, whose values mean those numbers.
abbrev pub signed_der : {V : Type 0} → ℕ → (V → ℤ) → Der V
signed_der bits number = simple_der number (sized_content (universal 2) (neg_ℤ (pos (2 ^ (bits - 1)))) (pos (2 ^ (bits - 1)) -ℤ pos 1)) (sized_laws _ _ _)

-- A type with the unsigned numbers of this many bits.
abbrev pub unsigned_der : {V : Type 0} → ℕ → (V → ℕ) → Der V
unsigned_der bits number = simple_der (λ v. pos (number v)) (sized_content (universal 2) (pos 0) (pos (2 ^ bits) -ℤ pos 1)) (sized_laws _ _ _)

-- The same of types without 0.
abbrev pub non_zero_signed_der : {V : Type 0} → ℕ → (V → ℤ) → Der V
non_zero_signed_der bits number = simple_der number (non_zero_content (universal 2) (neg_ℤ (pos (2 ^ (bits - 1)))) (pos (2 ^ (bits - 1)) -ℤ pos 1)) (non_zero_laws _ _ _)

-- The same of the unsigned numbers of this many bits, without 0.
abbrev pub non_zero_unsigned_der : {V : Type 0} → ℕ → (V → ℕ) → Der V
non_zero_unsigned_der bits number = simple_der (λ v. pos (number v)) (non_zero_content (universal 2) (pos 0) (pos (2 ^ bits) -ℤ pos 1)) (non_zero_laws _ _ _)

-- A type whose values own memory that holds a value of a simple type.
abbrev pub boxed_der : {V W : Type 0} → (W → V) → Der V → Der W
boxed_der view d = der_of (λ w. d.meaning (view w)) (boxed_encoding (encoding_of d)) (boxed_laws d.laws)
