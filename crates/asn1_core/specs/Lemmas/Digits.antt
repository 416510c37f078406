-- Digits that don't begin with 0 are the digits of their number.
use Rattle.std.proofs.Common.{◌≡◌, ℕ, zero, suc, ◌+◌, ◌*◌, ◌/◌, ◌%◌, ◌^◌, ◌<◌, ◌≤◌, List, [], ◌∷◌, ◌++◌, length, get_or, map, refl, sym, ap, subst, ◌∙◌, arith}
use Rattle.std.specs.List.{AllByRecursion}
use Rattle.std.specs.Int.Digits.{digits_of, number_from_digits, number_from_digits_after, AllBelowBase}
use Rattle.std.proofs.lemmas.Int.Digits.{number_push, number_after_ge, digits_of_step}
use Rattle.std.proofs.lemmas.Nat.{div-mul-add, mod-mul-add}
use Rattle.std.proofs.lemmas.List.{nil_from_length, length_push, get_or_append_left}
use Rattle.std.proofs.Math.Nat.{pow-succ'}
use Rattle.asn1_core.specs.Base256.{number}
use Rattle.asn1_core.specs.Base128.{digits_number}

-- the last item of a list
pub cons_as_push : (x : ℕ) (xs : List ℕ) → (front : List ℕ) × (y : ℕ) × (x ∷ xs ≡ front ++ y ∷ [])
cons_as_push x [] = ([], x, refl)
cons_as_push x (z ∷ zs) =
    let rest = cons_as_push z zs in
    (x ∷ rest.0, rest.1, ap (λ (l : List ℕ). x ∷ l) rest.2)

pub AllByRecursion_unpush : (P : ℕ → Type 0) (front : List ℕ) (y : ℕ) → AllByRecursion P (front ++ y ∷ []) → AllByRecursion P front × P y
AllByRecursion_unpush P [] y a = (tt, a.0)
AllByRecursion_unpush P (x ∷ xs) y a = let rest = AllByRecursion_unpush P xs y a.1 in ((a.0, rest.0), rest.1)

number_positive : (b : ℕ) (ds : List ℕ) → 0 < b → 0 < length ds → 0 < get_or ds 0 0 → 0 < number_from_digits b ds
number_positive b [] pos some first = absurd (omega arith)
number_positive b (d ∷ ds) pos some first = omega (arith, number_after_ge b (0 * b + d) ds pos)

-- digits below the base, the first of them above 0
abbrev pub Leads : List ℕ → Type 0
Leads ds = 0 < length ds → 0 < get_or ds 0 0

digits_back_of : (b : ℕ) → 2 ≤ b → (k : ℕ) (ds : List ℕ) → length ds ≡ k → AllBelowBase b ds → Leads ds → digits_of b (number_from_digits b ds) ≡ ds
digits_back_of b two zero ds e below leads = rw (nil_from_length ds e) refl
digits_back_of b two (suc k) [] e below leads = absurd (omega arith)
digits_back_of b two (suc k) (x ∷ xs) e below leads =
    let parts = cons_as_push x xs in
    let front = parts.0 in
    let y = parts.1 in
    let same : x ∷ xs ≡ front ++ y ∷ [] = parts.2 in
    let n = number_from_digits b front in
    let fewer : length front ≡ k = omega (arith, ap length same, length_push front y) in
    let each = AllByRecursion_unpush (λ d. d < b) front y (subst (λ l. AllBelowBase b l) same below) in
    let above : 0 < number_from_digits b (x ∷ xs) = number_positive b (x ∷ xs) (omega arith) (omega arith) (leads (omega arith)) in
    let value : number_from_digits b (x ∷ xs) ≡ n * b + y = ap (number_from_digits b) same ∙ number_push b front y in
    let high : (n * b + y) / b ≡ n = div-mul-add n b y each.1 in
    let low : (n * b + y) % b ≡ y = mod-mul-add n b y each.1 in
    let first : Leads front = λ (l : 0 < length front). rw (sym (get_or_append_left front (y ∷ []) 0 0 l), sym same) (leads (omega arith)) in
    let step : digits_of b (number_from_digits b (x ∷ xs)) ≡ digits_of b (number_from_digits b (x ∷ xs) / b) ++ (number_from_digits b (x ∷ xs) % b ∷ []) = digits_of_step b (number_from_digits b (x ∷ xs)) two above in
    let before : digits_of b n ≡ front = digits_back_of b two k front fewer each.0 first in
    step ∙ rw (value, high, low, before) (sym same)

pub digits_of_number_from_digits : (b : ℕ) (ds : List ℕ) → 2 ≤ b → AllBelowBase b ds → Leads ds → digits_of b (number_from_digits b ds) ≡ ds
digits_of_number_from_digits b ds two below leads = digits_back_of b two (length ds) ds refl below leads

-- the weighted sum of the digits is the number that they give one after another
after256 : (n : ℕ) (t : List ℕ) → number_from_digits_after 256 n t ≡ n * 256 ^ length t + number t
after256 n [] = omega arith
after256 n (x ∷ xs) = rw (after256 (n * 256 + x) xs, pow-succ' 256 (length xs)) (omega arith)

pub number_from_digits_256 : (t : List ℕ) → number_from_digits 256 t ≡ number t
number_from_digits_256 t = rw (after256 0 t) (omega arith)

after128 : (n : ℕ) (t : List ℕ) → number_from_digits_after 128 n (map (λ x. x % 128) t) ≡ n * 128 ^ length t + digits_number t
after128 n [] = omega arith
after128 n (x ∷ xs) = rw (after128 (n * 128 + x % 128) xs, pow-succ' 128 (length xs)) (omega arith)

pub number_from_digits_128 : (t : List ℕ) → number_from_digits 128 (map (λ x. x % 128) t) ≡ digits_number t
number_from_digits_128 t = rw (after128 0 t) (omega arith)
