use Rattle.std.proofs.Common.{inl, inr, sym, ◌∙◌}
use Rattle.asn1_values.specs.Lemmas.Times.{front_two_short, front_two_err, front_two_ok}
use Rattle.asn1.proofs.date.two_digits.Goals as goal
use Rattle.asn1.proofs.date.two_digits.Goals.{then-not-is_decimal-via-then-not-is_decimal, then-not-is_decimal-via-else-not-is_decimal+then-not-is_decimal-2}

pub returns-in_default : goal.returns-in_default
returns-in_default c = front_two_short c.args.octets.now c.in_default.len_below

pub returns-then-not-is_decimal : goal.returns-then-not-is_decimal
returns-then-not-is_decimal c = front_two_err c.args.octets.now c.in-len2-up.len_at_least (elim c.then-not-is_decimal.branch [
  | then-not-is_decimal-via-then-not-is_decimal w ↦ inl (sym c.is_decimal.ensures ∙ w.if-not-is_decimal.true)
  | then-not-is_decimal-via-else-not-is_decimal+then-not-is_decimal-2 w ↦ inr (sym w.is_decimal-else-not-is_decimal.ensures ∙ w.if-not-is_decimal-2.true)
])

pub returns : goal.returns
returns c = front_two_ok c.args.octets.now c.in-len2-up.len_at_least (sym c.is_decimal.ensures ∙ c.if-not-is_decimal.false) (sym c.is_decimal-else-not-is_decimal.ensures ∙ c.if-not-is_decimal-2.false)
