use Rattle.asn1_values.proofs.SameNumbers.{signed_number_injective, signed_number_pointwise}
use Rattle.asn1_values.proofs.laws_values.big_ints_compare.Goals as goal

pub returns-clause-equality : goal.returns-clause-equality
returns-clause-equality c a b = signed_number_pointwise a.octets.now b.octets.now a.is_content b.is_content

pub returns-clause-hash : goal.returns-clause-hash
returns-clause-hash c a b e = let same = signed_number_injective a.octets.now b.octets.now a.is_content b.is_content e in cc
