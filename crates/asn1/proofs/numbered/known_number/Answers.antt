use Rattle.std.proofs.Common.{arith}
use Rattle.asn1_core.specs.Tag.{universal}
use Rattle.asn1_core.specs.Lemmas.Contents.{Fits_retagged}
use Rattle.asn1.proofs.numbered.known_number.Goals as goal

pub returns-clause-fits : goal.returns-clause-fits
returns-clause-fits g c tag small =
    Fits_retagged (universal 2) tag _ (omega arith) small (rw c.number.ensures.value at c.known.ensures.fits)
