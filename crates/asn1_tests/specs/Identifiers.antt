-- An object identifier, as contracts name it.
use Rattle.std.proofs.Common.{◌≡◌, true, [], ◌∷◌, replicate, refl, lit<, lit≤}
use Rattle.std.specs.Prelude.{is_some}
use Rattle.asn1.specs.declared.ObjectIdentifier.{ObjectIdentifier}
use Rattle.asn1.specs.Base128.{leading_number}
use Rattle.asn1.specs.Identifier.{numbers_in}
use Rattle.asn1.specs.LawsOf.Values.{known_form}

pub are_numbers : is_some (numbers_in (42 ∷ 3 ∷ [])) ≡ true
unfolding numbers_in leading_number
are_numbers = refl

-- 1.2.3
abbrev pub some_identifier : ObjectIdentifier
some_identifier = record {
  octets = 42 ∷ 3 ∷ replicate 61 0;
  count = 2;
  is_content = known_form (42 ∷ 3 ∷ []) (lit< tt) (lit≤ tt) are_numbers (lit< tt, (lit< tt, tt));
}
