use Rattle.asn1_core.proofs.Bodies.{GivesLength_IsElementOf, GivesLength_unknown_element, GivesLength_exact}
use Rattle.asn1_core.proofs.types.AnyAsn1Writable.encoded_length.Goals as goal

pub returns-in_err-data_length-clause-length : goal.returns-in_err-data_length-clause-length
returns-in_err-data_length-clause-length g c =
    let d = g.T.Asn1Type.der in
    let m = d.meaning c.args.self.now in
    rw (c.from_residual.ensures, d.laws.as_encodings c.tag.ensures.simple m) (GivesLength_unknown_element _ (d.content.encodings m) _ c.in_err-data_length.ensures)

pub returns-in_err-data_length-clause-exact : goal.returns-in_err-data_length-clause-exact
returns-in_err-data_length-clause-exact g c =
    let d = g.T.Asn1Type.der in
    GivesLength_exact d _ (d.meaning c.args.self.now) _ (returns-in_err-data_length-clause-length g c)

pub returns-clause-length : goal.returns-clause-length
returns-clause-length g c =
    let d = g.T.Asn1Type.der in
    let m = d.meaning c.args.self.now in
    rw (d.laws.as_encodings c.tag.ensures.simple m) (GivesLength_IsElementOf _ (d.content.encodings m) _ c.tag.ensures.value c.in_ok-data_length.ensures _ c.full_length.ensures.value)

pub returns-clause-exact : goal.returns-clause-exact
returns-clause-exact g c =
    let d = g.T.Asn1Type.der in
    GivesLength_exact d _ (d.meaning c.args.self.now) _ (returns-clause-length g c)
