use Rattle.std.proofs.Common.{rules}
use Rattle.asn1_for_c.proofs.ErrorOctet.{rejected_at}
use Rattle.asn1_for_c.proofs.octets.leave_octet.Goals as goal

pub returns-in-Some-clause-exact : goal.returns-in-Some-clause-exact
returns-in-Some-clause-exact c = rejected_at _ _ _ _ _ c.in-Some.ensures.found (λ shown answer met. search rules)
