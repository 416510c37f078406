-- Two statements of what rows append, which say the same: so they do with one field more.
use Rattle.std.proofs.Common.{List, ℕ}
use Rattle.asn1.specs.FieldReads.{Both}
use Rattle.asn1.specs.Structures.{IsWrittenAs}

Both_weaker : (a b c d : List ℕ → Type 0) → ((t : List ℕ) → a t → c t) → ((t : List ℕ) → b t → d t) → (t : List ℕ) → Both a b t → Both c d t
Both_weaker a b c d first second t h =
    record { front = h.front; back = h.back; first = first h.front h.first; second = second h.back h.second; is = h.is }

module _ {V M N L : Type 0} (join : V → L) (left : L → M) (right : L → N)
    (texts : M → List ℕ → Type 0) (closures : M → Type 0) (encodings : V → List ℕ → Type 0) (owes : V → Type 0)
    (texts2 : N → List ℕ → Type 0) (closures2 : N → Type 0) (encodings2 : V → List ℕ → Type 0) (owes2 : V → Type 0) where
  -- an encoding of the first, and then one of the others
  pub IsWrittenAs_Both : IsWrittenAs texts closures (λ v. left (join v)) encodings owes → IsWrittenAs texts2 closures2 (λ v. right (join v)) encodings2 owes2
      → IsWrittenAs (λ l. Both (texts (left l)) (texts2 (right l))) (λ l. closures (left l) × closures2 (right l)) join (λ v. Both (encodings v) (encodings2 v)) (λ v. owes v × owes2 v)
  IsWrittenAs_Both a b = (
    λ v t. (
      Both_weaker _ _ _ _ (λ x. (a.0 v x).0) (λ x. (b.0 v x).0) t,
      Both_weaker _ _ _ _ (λ x. (a.0 v x).1) (λ x. (b.0 v x).1) t,
    ),
    λ v. (
      λ h. ((a.1 v).0 h.0, (b.1 v).0 h.1),
      λ h. ((a.1 v).1 h.0, (b.1 v).1 h.1),
    ),
  )
