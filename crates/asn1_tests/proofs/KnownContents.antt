-- Contents octets in a test: they are numbers.
use Rattle.std.proofs.Common.{◌≡◌, true, [], ◌∷◌, replicate, refl, arith}
use Rattle.std.specs.Prelude.{is_some}
use Rattle.asn1_core.specs.Base128.{leading_number}
use Rattle.asn1_values.specs.Identifier.{numbers_in, IsIdentifierForm}
use Rattle.asn1_values.specs.Lemmas.Identifier.{IsIdentifierForm_append_zeros}

one_number : is_some (numbers_in (0x55 ∷ [])) ≡ true
unfolding numbers_in leading_number
one_number = refl

two_numbers : is_some (numbers_in (0x81 ∷ 0x34 ∷ 0x03 ∷ [])) ≡ true
unfolding numbers_in leading_number
two_numbers = refl

pub one_octet : IsIdentifierForm (0x55 ∷ replicate 62 0) 1
one_octet = IsIdentifierForm_append_zeros (0x55 ∷ []) (omega arith) (omega arith) one_number (omega arith, tt)

pub three_octets : IsIdentifierForm (0x81 ∷ 0x34 ∷ 0x03 ∷ replicate 60 0) 3
three_octets = IsIdentifierForm_append_zeros (0x81 ∷ 0x34 ∷ 0x03 ∷ []) (omega arith) (omega arith) two_numbers (omega arith, (omega arith, (omega arith, tt)))
