use Rattle.std.proofs.Common.{refl}
use Rattle.pkix.proofs.algorithm_parameters.ParametersForm.read.Goals as goal

pub returns-in_ok-parse_single-in-NamedCurve : goal.returns-in_ok-parse_single-in-NamedCurve
returns-in_ok-parse_single-in-NamedCurve c =
    rw c.in-NamedCurve.is (c.in_ok-parse_single-in-NamedCurve.field-0, refl, c.in_ok-parse_single-in-NamedCurve.ensures.exact)
