-- What laws state about comparisons: these compare abstract values.
use Rattle.std.specs.Prelude.{ℕ, Bool, List, Option, Some, ◌≡◌, ◌⊎◌, ◌↔◌, IsTrue}
use Rattle.std.specs.Ordering.{is_lt, is_some_and}
use Rattle.std.specs.declared.cmp.Ordering.{Ordering}
use Rattle.std.specs.declared.cmp.Ordering.TheVariants.{Less, Equal}

-- Two values are equal exactly if their abstract values are.
abbrev pub IsEqualityOf : {T M : Type 0} → (T → M) → (T → T → Bool) → Type 0
IsEqualityOf {T} meaning eq = (a b : T) → IsTrue (eq a b) ↔ (meaning a ≡ meaning b)

-- Values with the same abstract value give the hasher the same octets.
abbrev pub HashesAlike : {T M : Type 0} → (T → M) → (T → List (List ℕ)) → Type 0
HashesAlike {T} meaning hash_input = (a b : T) → meaning a ≡ meaning b → hash_input a ≡ hash_input b

-- A clone equals its source.
abbrev pub ClonesAreEqual : {T : Type 0} → (T → T → Type 0) → (T → T → Bool) → Type 0
ClonesAreEqual {T} is_clone eq = (a b : T) → is_clone a b → IsTrue (eq b a)

-- Cloning never fails.
abbrev pub NeverFails : {T : Type 0} → (T → Type 0) → Type 0
NeverFails {T} is_infallible = (a : T) → is_infallible a

-- Two values always compare, in the order of their abstract values.
abbrev pub IsOrderOf : {T M : Type 0} → (T → M) → (M → M → Ordering) → (T → T → Option Ordering) → Type 0
IsOrderOf {T} meaning order partial_cmp = (a b : T) → partial_cmp a b ≡ Some (order (meaning a) (meaning b))

-- The order calls two values equal exactly if their abstract values are the same.
abbrev pub IsTieOf : {T M : Type 0} → (T → M) → (M → M → Ordering) → Type 0
IsTieOf {T} meaning order = (a b : T) → (order (meaning a) (meaning b) ≡ Equal) ↔ (meaning a ≡ meaning b)

-- What is before an earlier value is earlier.
abbrev pub IsTransitive : {T : Type 0} → (T → T → Option Ordering) → Type 0
IsTransitive {T} partial_cmp = (a b c : T) → IsTrue (is_some_and is_lt (partial_cmp a b)) → IsTrue (is_some_and is_lt (partial_cmp b c)) → IsTrue (is_some_and is_lt (partial_cmp a c))

-- Of two values one is before the other, or they mean the same.
abbrev pub AreInLine : {T M : Type 0} → (T → M) → (M → M → Ordering) → Type 0
AreInLine {T} meaning order = (a b : T) → (order (meaning a) (meaning b) ≡ Less) ⊎ ((order (meaning b) (meaning a) ≡ Less) ⊎ (meaning a ≡ meaning b))
