use Rattle.std.proofs.Common.{◌∙◌}
use Rattle.asn1.proofs.DefaultSteps.{same_default}
use Rattle.asn1.proofs.wrappers.defaulted.is_default.Goals as goal

pub returns : goal.returns
returns g c =
    let d = g.T.Asn1Type.der in
    c.eq.ensures ∙ same_default d.meaning d.encoding g.T.PartialEq.eq _ _ c.value-default.ensures (λ a. g.met.T.MeaningEq.tells a _) _
