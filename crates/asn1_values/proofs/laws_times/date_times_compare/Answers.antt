use Rattle.asn1_values.proofs.TimeOrder.{moment_order_exact, moment_order_total, order_in_line, partial_cmp_transitive}
use Rattle.asn1_values.proofs.laws_times.date_times_compare.Goals as goal
use Rattle.asn1_values.specs.TimeValues.{moment}

pub returns-clause-line : goal.returns-clause-line
returns-clause-line c = moment_order_total

pub returns-clause-transitive : goal.returns-clause-transitive
returns-clause-transitive c = partial_cmp_transitive moment moment_order_total c.date_times_are_ordered.ensures

pub returns-clause-apart : goal.returns-clause-apart
returns-clause-apart c = order_in_line moment moment_order_total moment_order_exact
