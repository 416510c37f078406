use Rattle.asn1_core.proofs.Bodies.{GivesLength_exact}
use Rattle.asn1.proofs.fields.plain.value_length.Goals as goal

pub returns-clause-exact : goal.returns-clause-exact
returns-clause-exact g c =
    let d = g.T.Asn1Type.der in
    GivesLength_exact d _ (d.meaning c.args.value.now) _ c.encoded_length.ensures
