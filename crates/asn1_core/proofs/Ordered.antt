-- The test of the order decides the relation.
use Rattle.std.proofs.Common.{◌≡◌, ℕ, ◌<◌, ◌≤◌, Bool, true, false, List, [], ◌∷◌, ◌++◌, length, refl, sym, ap, ◌∙◌, inl, inr, ⊎_elim, arith}
use Rattle.std.proofs.lemmas.Bool.{lt-ltb, le-ltb, eq-eqb, ne_eqb, cases_lt, cases_eq}
use Rattle.asn1_core.specs.Listing.{IsLess, encoding_less, OrderIsAnswered}

-- a step of the test
pub encoding_less_cons_below : (x y : ℕ) (xs ys : List ℕ) → x < y → encoding_less (x ∷ xs) (y ∷ ys) ≡ true
encoding_less_cons_below x y xs ys l = rw (lt-ltb x y l) refl

pub encoding_less_cons_same : (x y : ℕ) (xs ys : List ℕ) → x ≡ y → encoding_less (x ∷ xs) (y ∷ ys) ≡ encoding_less xs ys
encoding_less_cons_same x y xs ys e = rw (le-ltb x y (omega arith), eq-eqb x y e) refl

pub encoding_less_cons_above : (x y : ℕ) (xs ys : List ℕ) → y < x → encoding_less (x ∷ xs) (y ∷ ys) ≡ false
encoding_less_cons_above x y xs ys l = rw (le-ltb x y (omega arith), ne_eqb x y (λ (e : x ≡ y). omega arith)) refl

IsLess_cons : (x y : ℕ) (xs ys : List ℕ) → x ≡ y → IsLess xs ys → IsLess (x ∷ xs) (y ∷ ys)
IsLess_cons x y xs ys e (inl (front, a, rest, b, other, l, p, q)) = inl (x ∷ front, a, rest, b, other, l, ap (λ (s : List ℕ). x ∷ s) p, rw (sym e) (ap (λ (s : List ℕ). x ∷ s) q))
IsLess_cons x y xs ys e (inr (more, some, q)) = inr (more, some, rw (sym e) (ap (λ (s : List ℕ). x ∷ s) q))

not_less : {A : Type 0} (b : Bool) → b ≡ false → b ≡ true → A
not_less b f t = absurd cc

encoding_less_IsLess : (a b : List ℕ) → encoding_less a b ≡ true → IsLess a b
encoding_less_IsLess [] [] e = absurd cc
encoding_less_IsLess [] (y ∷ ys) e = inr (y ∷ ys, omega arith, refl)
encoding_less_IsLess (x ∷ xs) [] e = absurd cc
encoding_less_IsLess (x ∷ xs) (y ∷ ys) e = ⊎_elim
    (λ (l : x < y). inl ([], x, xs, y, ys, l, refl, refl))
    (λ (l : y ≤ x). ⊎_elim
    (λ (s : x ≡ y). IsLess_cons x y xs ys s (encoding_less_IsLess xs ys (sym (encoding_less_cons_same x y xs ys s) ∙ e)))
    (λ (n : x ≡ y → ⊥). not_less (encoding_less (x ∷ xs) (y ∷ ys)) (encoding_less_cons_above x y xs ys (omega arith)) e) (cases_eq x y)) (cases_lt x y)

encoding_less_common_prefix : (front : List ℕ) (x : ℕ) (rest : List ℕ) (y : ℕ) (other : List ℕ) → x < y → encoding_less (front ++ x ∷ rest) (front ++ y ∷ other) ≡ true
encoding_less_common_prefix [] x rest y other l = encoding_less_cons_below x y rest other l
encoding_less_common_prefix (z ∷ zs) x rest y other l = encoding_less_cons_same z z (zs ++ x ∷ rest) (zs ++ y ∷ other) refl ∙ encoding_less_common_prefix zs x rest y other l

encoding_less_proper_prefix : (a more : List ℕ) → 0 < length more → encoding_less a (a ++ more) ≡ true
encoding_less_proper_prefix [] [] some = absurd (omega arith)
encoding_less_proper_prefix [] (y ∷ ys) some = refl
encoding_less_proper_prefix (x ∷ xs) more some = encoding_less_cons_same x x xs (xs ++ more) refl ∙ encoding_less_proper_prefix xs more some

IsLess_encoding_less : (a b : List ℕ) → IsLess a b → encoding_less a b ≡ true
IsLess_encoding_less a b (inl (front, x, rest, y, other, l, p, q)) = rw (p, q) (encoding_less_common_prefix front x rest y other l)
IsLess_encoding_less a b (inr (more, some, q)) = rw q (encoding_less_proper_prefix a more some)

pub order_is_answered : OrderIsAnswered
order_is_answered a b = (encoding_less_IsLess a b, IsLess_encoding_less a b)
