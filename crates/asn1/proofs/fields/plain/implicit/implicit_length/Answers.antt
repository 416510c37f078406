use Rattle.std.proofs.Common.{refl, ap, ◌∙◌}
use Rattle.asn1_core.specs.Tag.{implicit_tag_of}
use Rattle.asn1_core.proofs.Bodies.{Fits_length, GivesLength_IsElementOf, GivesLength_unknown_element}
use Rattle.asn1.proofs.fields.plain.implicit.implicit_length.Goals as goal

pub returns-clause-length : goal.returns-clause-length
returns-clause-length g c =
    let d = g.T.Asn1Type.der in
    GivesLength_IsElementOf _ (d.content.encodings (d.meaning c.args.value.now)) _ (c.implicit_tag.ensures ∙ ap (implicit_tag_of c.args.tag) c.tag.ensures.value) c.in_ok-data_length.ensures _ c.full_length.ensures.value

pub returns-clause-exact : goal.returns-clause-exact
returns-clause-exact g c known plain valid fits =
    let d = g.T.Asn1Type.der in
    (returns-clause-length g c).told known _ (record { content = d.content.encoding (d.meaning c.args.value.now); is_content = d.laws.of_content.has_encoding plain _ valid; is = refl }) (Fits_length _ fits)

pub returns-in_err-data_length-clause-length : goal.returns-in_err-data_length-clause-length
returns-in_err-data_length-clause-length g c =
    let d = g.T.Asn1Type.der in
    rw c.from_residual.ensures (GivesLength_unknown_element _ (d.content.encodings (d.meaning c.args.value.now)) _ c.in_err-data_length.ensures)

pub returns-in_err-data_length-clause-exact : goal.returns-in_err-data_length-clause-exact
returns-in_err-data_length-clause-exact g c known plain valid fits =
    let d = g.T.Asn1Type.der in
    (returns-in_err-data_length-clause-length g c).told known _ (record { content = d.content.encoding (d.meaning c.args.value.now); is_content = d.laws.of_content.has_encoding plain _ valid; is = refl }) (Fits_length _ fits)
