use Rattle.std.proofs.Common.{◌≡◌, List, [], ◌∷◌, ◌&&◌, Bool, true, false, map, refl, ap, ◌∙◌}
use Rattle.std.specs.Prelude.{IsTrue, ◌↔◌}
use Rattle.std.specs.Cmp.Lexicographic.{pointwise}
use Rattle.asn1_values.specs.Comparisons.{IsEqualityOf}
use Rattle.asn1.proofs.SameMeanings.{cons_injective_head, cons_injective_tail}
use Rattle.asn1.proofs.laws_equality.slices_compare.Goals as goal

both_are : (a b : Bool) → IsTrue (a && b) → IsTrue a × IsTrue b
both_are true true h = (refl, refl)
both_are true false h = absurd cc
both_are false b h = absurd cc

both_is : (a b : Bool) → IsTrue a → IsTrue b → IsTrue (a && b)
both_is true true h k = refl
both_is true false h k = absurd cc
both_is false b h k = absurd cc

module _ {T M : Type 0} (f : T → M) (eq : T → T → Bool) (tells : IsEqualityOf f eq) where
  same_map : (a b : List T) → IsTrue (pointwise eq a b) → map f a ≡ map f b
  same_map [] [] h = refl
  same_map [] (y ∷ b) h = absurd cc
  same_map (x ∷ a) [] h = absurd cc
  same_map (x ∷ a) (y ∷ b) h =
      let k = both_are (eq x y) (pointwise eq a b) h in
      ap (λ (m : M). m ∷ map f a) ((tells x y).0 k.0) ∙ ap (λ (ms : List M). f y ∷ ms) (same_map a b k.1)

  map_same : (a b : List T) → map f a ≡ map f b → IsTrue (pointwise eq a b)
  map_same [] [] e = refl
  map_same [] (y ∷ b) e = absurd cc
  map_same (x ∷ a) [] e = absurd cc
  map_same (x ∷ a) (y ∷ b) e =
      let first = (tells x y).1 (cons_injective_head (f x) (f y) (map f a) (map f b) e) in
      let others = map_same a b (cons_injective_tail (f x) (f y) (map f a) (map f b) e) in
      both_is (eq x y) (pointwise eq a b) first others

  tells_slices : (a b : List T) → IsTrue (pointwise eq a b) ↔ (map f a ≡ map f b)
  tells_slices a b = (same_map a b, map_same a b)

pub returns-clause-sequence : goal.returns-clause-sequence
returns-clause-sequence g c tells a b = tells_slices _ _ tells a.items.now b.items.now

pub returns-clause-set : goal.returns-clause-set
returns-clause-set g c tells a b = tells_slices _ _ tells a.items.now b.items.now
