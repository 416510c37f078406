use Rattle.asn1.proofs.EqualSets.{orders_tell_multisets, sets_tell_multisets, sets_tell_values, values_are_elements}
use Rattle.asn1.proofs.laws.equal_multisets.Goals as goal

pub returns-clause-multisets : goal.returns-clause-multisets
returns-clause-multisets g c = sets_tell_multisets g.T.Asn1Type.der

pub returns-clause-values : goal.returns-clause-values
returns-clause-values g c = sets_tell_values g.T.Asn1Type.der

pub returns-clause-elements : goal.returns-clause-elements
returns-clause-elements g c = values_are_elements g.T.Asn1Type.der

pub returns-clause-orders : goal.returns-clause-orders
returns-clause-orders g c = orders_tell_multisets g.T.Asn1Type.der
