use Rattle.std.proofs.Common.{◌≡◌, ℕ, suc, List, [], ◌∷◌, ◌++◌, length, map, refl, ap, ◌∙◌}
use Rattle.std.specs.List.{flat_map}
use Rattle.std.specs.Hash as fed
use Rattle.asn1_values.specs.Comparisons.{HashesAlike}
use Rattle.asn1.proofs.SameMeanings.{cons_injective_head, cons_injective_tail}
use Rattle.asn1.proofs.laws_equality.slices_hash.Goals as goal

module _ {T M : Type 0} (f : T → M) (h : T → List (List ℕ)) (alike : HashesAlike f h) where
  same_length : (a b : List T) → map f a ≡ map f b → length a ≡ length b
  same_length [] [] e = refl
  same_length [] (y ∷ b) e = absurd cc
  same_length (x ∷ a) [] e = absurd cc
  same_length (x ∷ a) (y ∷ b) e =
      ap suc (same_length a b (cons_injective_tail (f x) (f y) (map f a) (map f b) e))

  same_items : (a b : List T) → map f a ≡ map f b → flat_map h a ≡ flat_map h b
  same_items [] [] e = refl
  same_items [] (y ∷ b) e = absurd cc
  same_items (x ∷ a) [] e = absurd cc
  same_items (x ∷ a) (y ∷ b) e =
      let first = alike x y (cons_injective_head (f x) (f y) (map f a) (map f b) e) in
      let others = same_items a b (cons_injective_tail (f x) (f y) (map f a) (map f b) e) in
      ap (λ (t : List (List ℕ)). t ++ flat_map h a) first ∙ ap (λ (t : List (List ℕ)). h y ++ t) others

  same_slices : (a b : List T) → map f a ≡ map f b → fed.slice h a ≡ fed.slice h b
  same_slices a b e =
      ap (λ n. fed.le_bytes 8 n ∷ flat_map h a) (same_length a b e)
      ∙ ap (λ (t : List (List ℕ)). fed.le_bytes 8 (length b) ∷ t) (same_items a b e)

pub returns-clause-sequence : goal.returns-clause-sequence
returns-clause-sequence g c alike a b = same_slices _ _ alike a.items.now b.items.now

pub returns-clause-set : goal.returns-clause-set
returns-clause-set g c alike a b = same_slices _ _ alike a.items.now b.items.now
