-- What the values of several alternatives and of those after them mean: one case for each, and no sum of sums, of which
-- the prover doesn't show the bodies of the seventh alternative by itself.
use Rattle.std.specs.Prelude.{ℕ, ◌⊎◌, List}
use Rattle.std.proofs.Common.{inl, inr}

-- ---- three alternatives, and those after them

-- A value of one of three alternatives (`first_of_3` to `third_of_3`), or of those after them (`after_3`).
pub data Among3 (A B C R : Type 0) : Type 0 where
  first_of_3 : A → Among3 A B C R
  second_of_3 : B → Among3 A B C R
  third_of_3 : C → Among3 A B C R
  after_3 : R → Among3 A B C R

-- What is stated of a value of one of the three, or of those after them.
abbrev pub three : {A B C R : Type 0} {P : Type 1} → (A → P) → (B → P) → (C → P) → (R → P) → Among3 A B C R → P
three f1 f2 f3 g (first_of_3 x) = f1 x
three f1 f2 f3 g (second_of_3 x) = f2 x
three f1 f2 f3 g (third_of_3 x) = f3 x
three f1 f2 f3 g (after_3 x) = g x

-- The encoding of such a value.
abbrev pub three_encoding : {A B C R : Type 0} → (A → List ℕ) → (B → List ℕ) → (C → List ℕ) → (R → List ℕ) → Among3 A B C R → List ℕ
three_encoding f1 f2 f3 g (first_of_3 x) = f1 x
three_encoding f1 f2 f3 g (second_of_3 x) = f2 x
three_encoding f1 f2 f3 g (third_of_3 x) = f3 x
three_encoding f1 f2 f3 g (after_3 x) = g x

-- The same value, from a sum.
abbrev pub among_three : {A B C R : Type 0} → A ⊎ (B ⊎ (C ⊎ R)) → Among3 A B C R
among_three (inl x) = first_of_3 x
among_three (inr (inl x)) = second_of_3 x
among_three (inr (inr (inl x))) = third_of_3 x
among_three (inr (inr (inr x))) = after_3 x

-- The same value, as a sum.
abbrev pub sum_of_three : {A B C R : Type 0} → Among3 A B C R → A ⊎ (B ⊎ (C ⊎ R))
sum_of_three (first_of_3 x) = inl x
sum_of_three (second_of_3 x) = inr (inl x)
sum_of_three (third_of_3 x) = inr (inr (inl x))
sum_of_three (after_3 x) = inr (inr (inr x))

-- ---- eight alternatives, and those after them

-- A value of one of eight alternatives (`first_of_8` to `eighth_of_8`), or of those after them (`after_8`).
pub data Among8 (A B C D E F G H R : Type 0) : Type 0 where
  first_of_8 : A → Among8 A B C D E F G H R
  second_of_8 : B → Among8 A B C D E F G H R
  third_of_8 : C → Among8 A B C D E F G H R
  fourth_of_8 : D → Among8 A B C D E F G H R
  fifth_of_8 : E → Among8 A B C D E F G H R
  sixth_of_8 : F → Among8 A B C D E F G H R
  seventh_of_8 : G → Among8 A B C D E F G H R
  eighth_of_8 : H → Among8 A B C D E F G H R
  after_8 : R → Among8 A B C D E F G H R

-- What is stated of a value of one of the eight, or of those after them.
abbrev pub eight : {A B C D E F G H R : Type 0} {P : Type 1} → (A → P) → (B → P) → (C → P) → (D → P) → (E → P) → (F → P) → (G → P) → (H → P) → (R → P) → Among8 A B C D E F G H R → P
eight f1 f2 f3 f4 f5 f6 f7 f8 g (first_of_8 x) = f1 x
eight f1 f2 f3 f4 f5 f6 f7 f8 g (second_of_8 x) = f2 x
eight f1 f2 f3 f4 f5 f6 f7 f8 g (third_of_8 x) = f3 x
eight f1 f2 f3 f4 f5 f6 f7 f8 g (fourth_of_8 x) = f4 x
eight f1 f2 f3 f4 f5 f6 f7 f8 g (fifth_of_8 x) = f5 x
eight f1 f2 f3 f4 f5 f6 f7 f8 g (sixth_of_8 x) = f6 x
eight f1 f2 f3 f4 f5 f6 f7 f8 g (seventh_of_8 x) = f7 x
eight f1 f2 f3 f4 f5 f6 f7 f8 g (eighth_of_8 x) = f8 x
eight f1 f2 f3 f4 f5 f6 f7 f8 g (after_8 x) = g x

-- The encoding of such a value.
abbrev pub eight_encoding : {A B C D E F G H R : Type 0} → (A → List ℕ) → (B → List ℕ) → (C → List ℕ) → (D → List ℕ) → (E → List ℕ) → (F → List ℕ) → (G → List ℕ) → (H → List ℕ) → (R → List ℕ) → Among8 A B C D E F G H R → List ℕ
eight_encoding f1 f2 f3 f4 f5 f6 f7 f8 g (first_of_8 x) = f1 x
eight_encoding f1 f2 f3 f4 f5 f6 f7 f8 g (second_of_8 x) = f2 x
eight_encoding f1 f2 f3 f4 f5 f6 f7 f8 g (third_of_8 x) = f3 x
eight_encoding f1 f2 f3 f4 f5 f6 f7 f8 g (fourth_of_8 x) = f4 x
eight_encoding f1 f2 f3 f4 f5 f6 f7 f8 g (fifth_of_8 x) = f5 x
eight_encoding f1 f2 f3 f4 f5 f6 f7 f8 g (sixth_of_8 x) = f6 x
eight_encoding f1 f2 f3 f4 f5 f6 f7 f8 g (seventh_of_8 x) = f7 x
eight_encoding f1 f2 f3 f4 f5 f6 f7 f8 g (eighth_of_8 x) = f8 x
eight_encoding f1 f2 f3 f4 f5 f6 f7 f8 g (after_8 x) = g x

-- The same value, from a sum.
abbrev pub among_eight : {A B C D E F G H R : Type 0} → A ⊎ (B ⊎ (C ⊎ (D ⊎ (E ⊎ (F ⊎ (G ⊎ (H ⊎ R))))))) → Among8 A B C D E F G H R
among_eight (inl x) = first_of_8 x
among_eight (inr (inl x)) = second_of_8 x
among_eight (inr (inr (inl x))) = third_of_8 x
among_eight (inr (inr (inr (inl x)))) = fourth_of_8 x
among_eight (inr (inr (inr (inr (inl x))))) = fifth_of_8 x
among_eight (inr (inr (inr (inr (inr (inl x)))))) = sixth_of_8 x
among_eight (inr (inr (inr (inr (inr (inr (inl x))))))) = seventh_of_8 x
among_eight (inr (inr (inr (inr (inr (inr (inr (inl x)))))))) = eighth_of_8 x
among_eight (inr (inr (inr (inr (inr (inr (inr (inr x)))))))) = after_8 x

-- The same value, as a sum.
abbrev pub sum_of_eight : {A B C D E F G H R : Type 0} → Among8 A B C D E F G H R → A ⊎ (B ⊎ (C ⊎ (D ⊎ (E ⊎ (F ⊎ (G ⊎ (H ⊎ R)))))))
sum_of_eight (first_of_8 x) = inl x
sum_of_eight (second_of_8 x) = inr (inl x)
sum_of_eight (third_of_8 x) = inr (inr (inl x))
sum_of_eight (fourth_of_8 x) = inr (inr (inr (inl x)))
sum_of_eight (fifth_of_8 x) = inr (inr (inr (inr (inl x))))
sum_of_eight (sixth_of_8 x) = inr (inr (inr (inr (inr (inl x)))))
sum_of_eight (seventh_of_8 x) = inr (inr (inr (inr (inr (inr (inl x))))))
sum_of_eight (eighth_of_8 x) = inr (inr (inr (inr (inr (inr (inr (inl x)))))))
sum_of_eight (after_8 x) = inr (inr (inr (inr (inr (inr (inr (inr x)))))))
