use Rattle.std.proofs.Common.{refl}
use Rattle.asn1_core.proofs.Bodies.{Fits_length, GivesLength_IsElementOf, GivesLength_unknown_element}
use Rattle.asn1.proofs.fields.plain.explicit.explicit_length.Goals as goal

pub returns-clause-length : goal.returns-clause-length
returns-clause-length g c =
    let d = g.T.Asn1Type.der in
    GivesLength_IsElementOf _ (d.encodings (d.meaning c.args.value.now)) _ c.explicit_tag.ensures c.in_ok-encoded_length.ensures _ c.full_length.ensures.value

pub returns-clause-exact : goal.returns-clause-exact
returns-clause-exact g c known plain valid fits =
    let d = g.T.Asn1Type.der in
    (returns-clause-length g c).told known _ (record { content = d.encoding (d.meaning c.args.value.now); is_content = d.laws.has_encoding plain _ valid; is = refl }) (Fits_length _ fits)

pub returns-in_err-encoded_length-clause-length : goal.returns-in_err-encoded_length-clause-length
returns-in_err-encoded_length-clause-length g c =
    let d = g.T.Asn1Type.der in
    rw c.from_residual.ensures (GivesLength_unknown_element _ (d.encodings (d.meaning c.args.value.now)) _ c.in_err-encoded_length.ensures)

pub returns-in_err-encoded_length-clause-exact : goal.returns-in_err-encoded_length-clause-exact
returns-in_err-encoded_length-clause-exact g c known plain valid fits =
    let d = g.T.Asn1Type.der in
    (returns-in_err-encoded_length-clause-length g c).told known _ (record { content = d.encoding (d.meaning c.args.value.now); is_content = d.laws.has_encoding plain _ valid; is = refl }) (Fits_length _ fits)
