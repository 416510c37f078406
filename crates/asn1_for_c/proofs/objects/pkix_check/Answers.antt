use Rattle.asn1_for_c.proofs.Forms.{at_some}
use Rattle.asn1_for_c.proofs.objects.pkix_check.Goals as goal

pub returns-in-Some-clause-exact : goal.returns-in-Some-clause-exact
returns-in-Some-clause-exact c = at_some _ _ c.in-Some.one _ c.form_of.ensures.one c.in-Some.is c.check_one.ensures.exact

pub returns-in-Some-clause-key : goal.returns-in-Some-clause-key
returns-in-Some-clause-key c = λ is.
    let left = c.check_one.ensures.exact in
    (left.0, c.in-Some.ensures.key is _ _ left.0 left.1, left.2)

pub returns-in-Some-clause-signature : goal.returns-in-Some-clause-signature
returns-in-Some-clause-signature c = λ is.
    let left = c.check_one.ensures.exact in
    (left.0, c.in-Some.ensures.signature is _ _ left.0 left.1, left.2)
