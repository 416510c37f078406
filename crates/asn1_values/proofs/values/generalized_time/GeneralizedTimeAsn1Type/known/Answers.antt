use Rattle.std.proofs.Common.{inr, refl, arith}
use Rattle.asn1_core.specs.Element.{element}
use Rattle.asn1_core.specs.Tag.{universal}
use Rattle.asn1_values.specs.TimeValues.{instant_of}
use Rattle.asn1_values.specs.Times.{instant_text}
use Rattle.asn1_values.specs.Lemmas.Fractions.{few_of_instant}
use Rattle.asn1_values.proofs.values.generalized_time.GeneralizedTimeAsn1Type.known.Goals as goal

pub returns-clause-fits : goal.returns-clause-fits
returns-clause-fits c =
    let i = instant_of c.args.self.now in
    inr (element (universal 24) (instant_text i), record { tag = omega arith; content = omega (arith, few_of_instant i) }, refl)
