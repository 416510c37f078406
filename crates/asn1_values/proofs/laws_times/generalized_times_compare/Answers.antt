use Rattle.asn1_values.proofs.TimeOrder.{instant_order_exact, instant_order_total, order_in_line, partial_cmp_transitive}
use Rattle.asn1_values.proofs.laws_times.generalized_times_compare.Goals as goal
use Rattle.asn1_values.specs.TimeValues.{instant_of}

pub returns-clause-line : goal.returns-clause-line
returns-clause-line c = instant_order_total

pub returns-clause-transitive : goal.returns-clause-transitive
returns-clause-transitive c = partial_cmp_transitive instant_of instant_order_total c.generalized_times_are_ordered.ensures

pub returns-clause-apart : goal.returns-clause-apart
returns-clause-apart c = order_in_line instant_of instant_order_total instant_order_exact
