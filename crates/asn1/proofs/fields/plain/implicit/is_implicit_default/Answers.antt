use Rattle.std.proofs.Common.{◌∙◌}
use Rattle.asn1_core.specs.Tag.{implicit_tag_of}
use Rattle.asn1.specs.Lemmas.Equalities.{retagged_tells}
use Rattle.asn1.proofs.DefaultSteps.{same_default}
use Rattle.asn1.proofs.fields.plain.implicit.is_implicit_default.Goals as goal

pub returns : goal.returns
returns g c =
    let d = g.T.Asn1Type.der in
    let same = g.T.PartialEq.eq in
    c.eq.ensures ∙ same_default d.meaning _ same _ _ c.value-default.ensures (λ a. retagged_tells (λ x. x) d.meaning (implicit_tag_of g.row.N d.content.tag) d.encoding d.content.encoding same a _ (g.met.T.MeaningEq.tells a _) (g.met.T.SimpleMeaningEq.content_tells a _)) _
