use Rattle.std.proofs.Common.{◌≡◌, ◌==◌, ◌<◌, ◌≤◌, ◌⊎◌, ℕ, Bool, List, length, slice_index, Option, Some, None, refl, sym, ap, ⊎_elim, arith}
use Rattle.std.specs.List.{position, position_or_len}
use Rattle.std.proofs.lemmas.Bool.{cases_lt, cases_order, lt-ltb, le-ltb}
use Rattle.std.proofs.lemmas.List.Sums.{passes_at_first, fails_before_first}
use Rattle.memchr.specs.Find.{IsFirstByte}
use Rattle.asn1.specs.Lemmas.Facts.{not_both}
use Rattle.dercheck.proofs.lines.place_of.Goals as goal

-- the first place is `position`
first_is_position : (test : ℕ → Bool) (xs : List ℕ) (r : Option ℕ) → IsFirstByte test xs r → r ≡ position test xs
first_is_position test xs None none = ⊎_elim
    (λ (less : position_or_len test xs < length xs). absurd (none (position_or_len test xs) (omega arith) less (passes_at_first test xs 0 less)))
    (λ (most : length xs ≤ position_or_len test xs). rw (le-ltb _ _ most) refl)
    (cases_lt (position_or_len test xs) (length xs))
first_is_position test xs (Some k) (first, passes) = ⊎_elim
    (λ (same : position_or_len test xs ≡ k).
    let less : position_or_len test xs < length xs = omega (arith, first.high) in
    rw (lt-ltb _ _ less) (ap (λ (n : ℕ). Some n) (sym same)))
    (λ (apart : (position_or_len test xs < k) ⊎ (k < position_or_len test xs)). ⊎_elim
    (λ (early : position_or_len test xs < k). absurd (first.before (position_or_len test xs) (omega arith) early (passes_at_first test xs 0 (omega (arith, first.high)))))
    (λ (late : k < position_or_len test xs). absurd (not_both (test (slice_index xs k)) passes (fails_before_first test xs k 0 late)))
    apart)
    (cases_order (position_or_len test xs) k)

pub returns : goal.returns
returns c = first_is_position (λ next. next == c.args.octet) c.args.text.now c.memchr.result c.memchr.ensures
