use Rattle.std.proofs.Common.{◌∙◌}
use Rattle.asn1_core.specs.Tag.{explicit_tag_of}
use Rattle.asn1.specs.Lemmas.Equalities.{inside_tells}
use Rattle.asn1.proofs.DefaultSteps.{same_default}
use Rattle.asn1.proofs.fields.plain.explicit.is_explicit_default.Goals as goal

pub returns : goal.returns
returns g c =
    let d = g.T.Asn1Type.der in
    let same = g.T.PartialEq.eq in
    c.eq.ensures ∙ same_default d.meaning _ same _ _ c.value-default.ensures (λ a. inside_tells (λ x. x) d.meaning (explicit_tag_of g.row.N) d.encoding same a _ (g.met.T.MeaningEq.tells a _)) _
