-- Times are in a line.
use Rattle.std.specs.Prelude.{◌≡◌, ◌⊎◌, ℕ, List, Option, None, Some, IsTrue, get_or}
use Rattle.std.specs.Ordering.{is_lt, is_some_and, nat_cmp}
use Rattle.std.specs.Option.{option_cmp}
use Rattle.std.specs.Cmp.{IsTotalOrder}
use Rattle.std.specs.Cmp.Lexicographic.{options_total}
use Rattle.std.specs.declared.cmp.Ordering.{Ordering}
use Rattle.std.specs.declared.cmp.Ordering.TheVariants.{Less, Equal, Greater}
use Rattle.std.proofs.Common.{inl, inr, refl, ap, subst}
use Rattle.std.proofs.lemmas.Cmp.{nat_cmp_total, nat_list_cmp_total, on_total, then_total}
use Rattle.std.proofs.lemmas.Map.Lookups.{CmpEqualImpliesEq, exact_bytes, exact_pairs, exact_unsigned}
use Rattle.asn1_values.specs.Comparisons.{AreInLine, IsOrderOf, IsTransitive}
use Rattle.asn1_values.specs.Times.{Instant, Moment, instant, moment_numbers, moment_order, instant_order}

pub moment_order_total : IsTotalOrder moment_order
moment_order_total = on_total moment_numbers nat_list_cmp_total

pub instant_order_total : IsTotalOrder instant_order
instant_order_total = then_total
    (on_total (λ (i : Instant). i.moment) moment_order_total)
    (on_total (λ (i : Instant). i.nanoseconds) (options_total nat_cmp_total))

-- ---- what the orders don't tell apart is the same

moment_with : List ℕ → Moment
moment_with l = record { year = get_or l 0 0; month = get_or l 1 0; day = get_or l 2 0; hour = get_or l 3 0; minute = get_or l 4 0; second = get_or l 5 0 }

pub moment_order_exact : CmpEqualImpliesEq moment_order
unfolding moment_with
moment_order_exact a b e = ap moment_with (exact_bytes (moment_numbers a) (moment_numbers b) e)

option_cmp_exact : CmpEqualImpliesEq (option_cmp nat_cmp)
option_cmp_exact None None e = refl
option_cmp_exact None (Some n) e = absurd cc
option_cmp_exact (Some m) None e = absurd cc
option_cmp_exact (Some m) (Some n) e = ap Some (exact_unsigned m n e)

pub instant_order_exact : CmpEqualImpliesEq instant_order
instant_order_exact a b e =
    ap (λ (p : Moment × Option ℕ). instant p.0 p.1) (exact_pairs moment_order (option_cmp nat_cmp) moment_order_exact option_cmp_exact (a.moment, a.nanoseconds) (b.moment, b.nanoseconds) e)

-- ---- the forms that a caller's search applies

less : (o : Ordering) → IsTrue (is_lt o) → o ≡ Less
less Less e = refl
less Equal e = absurd cc
less Greater e = absurd cc

is_less : (o : Ordering) → o ≡ Less → IsTrue (is_lt o)
is_less o e = rw e refl

module _ {T M : Type 0} (meaning : T → M) {order : M → M → Ordering} (total : IsTotalOrder order) where
  pub partial_cmp_transitive : {partial_cmp : T → T → Option Ordering} → IsOrderOf meaning order partial_cmp → IsTransitive partial_cmp
  partial_cmp_transitive is a b c first second =
      rw (is a c) (is_less _ (total.trans (meaning a) (meaning b) (meaning c)
      (less _ (subst (λ (o : Option Ordering). IsTrue (is_some_and is_lt o)) (is a b) first))
      (less _ (subst (λ (o : Option Ordering). IsTrue (is_some_and is_lt o)) (is b c) second))))

  pub order_in_line : CmpEqualImpliesEq order → AreInLine meaning order
  order_in_line exact a b = by_order (order (meaning a) (meaning b)) refl
    where
      by_order : (o : Ordering) → order (meaning a) (meaning b) ≡ o → (order (meaning a) (meaning b) ≡ Less) ⊎ ((order (meaning b) (meaning a) ≡ Less) ⊎ (meaning a ≡ meaning b))
      by_order Less e = inl e
      by_order Equal e = inr (inr (exact (meaning a) (meaning b) e))
      by_order Greater e = inr (inl (rw (total.antisymm (meaning b) (meaning a), e) refl))
