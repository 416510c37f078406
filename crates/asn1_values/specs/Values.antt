-- The octets and numbers of Rust's integers of any length and enumerated values, and the `Content` of these integers.
use Rattle.std.specs.Prelude.{ℕ, ℤ, List, pos, ◌≤ℤ◌}
use Rattle.asn1_core.specs.Base256.{signed_number}
use Rattle.asn1_values.specs.declared.values.big.BigUint.{BigUint}
use Rattle.asn1_values.specs.declared.values.big.BigInt.{BigInt}
use Rattle.asn1_values.specs.declared.values.owned.OwnedBigUint.{OwnedBigUint}
use Rattle.asn1_values.specs.declared.values.owned.OwnedBigInt.{OwnedBigInt}
use Rattle.asn1_core.specs.Tag.{universal}
use Rattle.asn1_core.specs.Integer.{integer_content, read_integer}
use Rattle.asn1_core.specs.Encoding.{Content, basic}
use Rattle.asn1_values.specs.Big.{read_unsigned}
use Rattle.asn1_values.specs.declared.values.enumerated.Enumerated.{Enumerated}

-- The octets of a `BigUint`.
abbrev pub big_uint_octets : BigUint → List ℕ
big_uint_octets n = n.octets.now

-- The number of a `BigUint`.
abbrev pub big_uint_number : BigUint → ℤ
big_uint_number n = signed_number (big_uint_octets n)

-- The octets of a `BigInt`.
abbrev pub big_int_octets : BigInt → List ℕ
big_int_octets n = n.octets.now

-- The number of a `BigInt`.
abbrev pub big_int_number : BigInt → ℤ
big_int_number n = signed_number (big_int_octets n)

-- The octets of an `OwnedBigUint`.
abbrev pub owned_big_uint_octets : OwnedBigUint → List ℕ
owned_big_uint_octets n = n.octets.items

-- The number of an `OwnedBigUint`.
abbrev pub owned_big_uint_number : OwnedBigUint → ℤ
owned_big_uint_number n = signed_number (owned_big_uint_octets n)

-- The octets of an `OwnedBigInt`.
abbrev pub owned_big_int_octets : OwnedBigInt → List ℕ
owned_big_int_octets n = n.octets.items

-- The number of an `OwnedBigInt`.
abbrev pub owned_big_int_number : OwnedBigInt → ℤ
owned_big_int_number n = signed_number (owned_big_int_octets n)

-- Every number.
abbrev pub signed_content : Content ℤ
signed_content = basic (record {
  tag = universal 2;
  encoding = integer_content;
  valid = λ z. Unit {0};
  read = read_integer;
})

-- Every number that isn't negative.
abbrev pub unsigned_content : Content ℤ
unsigned_content = basic (record {
  tag = universal 2;
  encoding = integer_content;
  valid = λ z. pos 0 ≤ℤ z;
  read = read_unsigned;
})

-- The number.
abbrev pub enumerated_value : Enumerated → ℕ
enumerated_value e = e.0
