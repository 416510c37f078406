use Rattle.std.proofs.Common.{arith}
use Rattle.std.specs.Prelude.{pos}
use Rattle.asn1_core.specs.Tag.{universal}
use Rattle.asn1_core.specs.Integer.{integer_content}
use Rattle.asn1_core.specs.Lemmas.Contents.{Fits_retagged}
use Rattle.asn1_values.specs.Values.{enumerated_value}
use Rattle.asn1_values.proofs.values.enumerated.EnumeratedAsn1Type.known.Goals as goal

pub returns-clause-fits : goal.returns-clause-fits
returns-clause-fits c =
    Fits_retagged (universal 2) (universal 10) (integer_content (pos (enumerated_value c.args.self.now))) (omega arith) (omega arith) c.known.ensures.fits
