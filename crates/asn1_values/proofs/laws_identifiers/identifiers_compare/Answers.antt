use Rattle.std.proofs.Common.{ap}
use Rattle.asn1_values.specs.IdentifierValues.{identifier_of}
use Rattle.asn1_values.proofs.SameIdentifiers.{same_fields, equal_identifiers}
use Rattle.asn1_values.proofs.laws_identifiers.identifiers_compare.Goals as goal

pub returns-clause-equality : goal.returns-clause-equality
returns-clause-equality c = equal_identifiers

pub returns-clause-hash : goal.returns-clause-hash
returns-clause-hash c a b e = let same = same_fields a b e in let octets = same.0 in let count = same.1 in cc

pub returns-clause-clone : goal.returns-clause-clone
returns-clause-clone c a b same = (equal_identifiers b a).1 (ap identifier_of same)
