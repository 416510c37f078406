use Rattle.asn1.proofs.laws_types.encodings_tell_values.Goals as goal

pub returns-clause-one_value : goal.returns-clause-one_value
returns-clause-one_value g c is lawful m n v w same = g.T.Asn1Type.der.laws.one_value is m n lawful v w same
