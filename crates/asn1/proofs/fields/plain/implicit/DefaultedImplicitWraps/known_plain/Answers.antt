use Rattle.asn1_core.specs.Tag.{implicit_tag_of}
use Rattle.asn1.specs.Lemmas.Equalities.{retagged_tells}
use Rattle.asn1.proofs.DefaultSteps.{equal_or_same_encoding_false}
use Rattle.asn1.proofs.fields.plain.implicit.DefaultedImplicitWraps.known_plain.Goals as goal

pub returns : goal.returns
returns g c =
    let d = g.T.Asn1Type.der in
    let same = g.T.PartialEq.eq in
    let a = c.args.value.now in
    equal_or_same_encoding_false d.meaning _ same d.content.valid _ _ (retagged_tells (λ x. x) d.meaning (implicit_tag_of g.row.N d.content.tag) d.encoding d.content.encoding same a _ (g.met.T.MeaningEq.tells a _) (g.met.T.SimpleMeaningEq.content_tells a _)) (d.laws.as_valid _ c.known.ensures)
