use Rattle.asn1.proofs.DefaultSteps.{equal_or_same_encoding_false}
use Rattle.asn1.proofs.wrappers.defaulted.DefaultedAsn1Type.known.Goals as goal

pub returns : goal.returns
returns g c =
    let d = g.T.Asn1Type.der in
    equal_or_same_encoding_false d.meaning d.encoding g.T.PartialEq.eq d.valid _ _ (g.met.T.MeaningEq.tells c.args.self.now.inner g.D.DefaultValue.default) c.known.ensures
