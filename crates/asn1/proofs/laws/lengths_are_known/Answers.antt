use Rattle.asn1_core.proofs.Bodies.{GivesLength_exact}
use Rattle.asn1.proofs.laws.lengths_are_known.Goals as goal

pub returns : goal.returns
returns g c v known gives has plain valid fits = GivesLength_exact g.T.Asn1Type.der _ _ known gives has plain valid fits
