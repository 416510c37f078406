use Rattle.asn1_tests.specs.Identifiers.{some_identifier}
use Rattle.asn1_tests.proofs.defaults.one_two_three.Goals as goal

pub from_der_unchecked-requires : goal.from_der_unchecked-requires
from_der_unchecked-requires c = some_identifier.is_content

pub returns : goal.returns
returns c = c.from_der_unchecked.ensures
