use Rattle.asn1_values.proofs.SameNumbers.{signed_number_injective, signed_number_pointwise}
use Rattle.asn1_values.proofs.laws_values.owned_big_uints_compare.Goals as goal

pub returns-clause-equality : goal.returns-clause-equality
returns-clause-equality c a b = signed_number_pointwise a.octets.items b.octets.items a.is_content.0 b.is_content.0

pub returns-clause-hash : goal.returns-clause-hash
returns-clause-hash c a b e = let same = signed_number_injective a.octets.items b.octets.items a.is_content.0 b.is_content.0 e in cc
