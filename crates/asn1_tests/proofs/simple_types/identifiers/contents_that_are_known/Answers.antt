use Rattle.asn1_tests.proofs.KnownContents.{one_octet, three_octets}
use Rattle.asn1_tests.proofs.simple_types.identifiers.contents_that_are_known.Goals as goal

pub from_der_unchecked-identifier-requires : goal.from_der_unchecked-identifier-requires
from_der_unchecked-identifier-requires g = one_octet

pub from_der_unchecked-identifier-requires-2 : goal.from_der_unchecked-identifier-requires-2
from_der_unchecked-identifier-requires-2 g = three_octets
