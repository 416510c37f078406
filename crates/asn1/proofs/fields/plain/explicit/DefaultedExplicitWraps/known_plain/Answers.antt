use Rattle.asn1_core.specs.Tag.{explicit_tag_of}
use Rattle.asn1.specs.Lemmas.Equalities.{inside_tells}
use Rattle.asn1.proofs.DefaultSteps.{equal_or_same_encoding_false}
use Rattle.asn1.proofs.fields.plain.explicit.DefaultedExplicitWraps.known_plain.Goals as goal

pub returns : goal.returns
returns g c =
    let d = g.T.Asn1Type.der in
    let same = g.T.PartialEq.eq in
    let a = c.args.value.now in
    equal_or_same_encoding_false d.meaning _ same d.valid _ _ (inside_tells (λ x. x) d.meaning (explicit_tag_of g.row.N) d.encoding same a _ (g.met.T.MeaningEq.tells a _)) c.known.ensures
