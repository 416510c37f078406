use Rattle.asn1_for_c.proofs.Forms.{at_some}
use Rattle.asn1_for_c.proofs.octets.pkix_error_octet.Goals as goal

pub returns-in-Some-clause-exact : goal.returns-in-Some-clause-exact
returns-in-Some-clause-exact c = at_some _ _ c.in-Some.one _ c.form_of.ensures.one c.in-Some.is c.leave_octet.ensures.exact

pub returns-in-Some-clause-key : goal.returns-in-Some-clause-key
returns-in-Some-clause-key c = λ is. (c.in-Some.one, c.in-Some.ensures.key is, c.leave_octet.ensures.exact)

pub returns-in-Some-clause-signature : goal.returns-in-Some-clause-signature
returns-in-Some-clause-signature c = λ is. (c.in-Some.one, c.in-Some.ensures.signature is, c.leave_octet.ensures.exact)
