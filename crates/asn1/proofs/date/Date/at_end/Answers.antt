use Rattle.std.proofs.Common.{arith}
use Rattle.asn1_values.specs.Lemmas.Identifier.{empty_by, some_by}
use Rattle.asn1.specs.declared.date.Date.{Date}
use Rattle.asn1.specs.DateValues.{day_of}
use Rattle.asn1.specs.Lemmas.Dates.{day_alone_option, day_alone_err}
use Rattle.asn1.proofs.date.Date.at_end.Goals as goal

pub returns-then-not-is_empty : goal.returns-then-not-is_empty
returns-then-not-is_empty c = day_alone_err _ c.args.after.now (λ h none. absurd (omega (arith, none, some_by _ _ c.is_empty.ensures c.if-not-is_empty.true)))

pub returns : goal.returns
returns c = day_alone_option day_of c.of_numbers.result _ c.args.after.now (λ (d : Date). d.is_day) (empty_by _ _ c.is_empty.ensures c.if-not-is_empty.false) c.of_numbers.ensures
