-- The object identifier that a default is.
use Rattle.std.specs.Prelude.{◌≡◌, ℕ, ◌-◌, ◌++◌, Bool, true, false, List, [], ◌∷◌, length, replicate}
use Rattle.std.proofs.Common.{refl}
use Rattle.asn1_values.specs.declared.object_identifier.ObjectIdentifier.{ObjectIdentifier}
use Rattle.asn1_values.specs.Identifier.{IsIdentifier, identifier_content}
use Rattle.asn1.specs.IdentifierTests.{is_identifier}
use Rattle.asn1.specs.LawsOf.Identifiers.{known_content_form, known_by_test, known_zero}

-- The identifier with these numbers in memory.
abbrev pub identifier_with_form : (numbers : List ℕ) → IsIdentifier numbers → ObjectIdentifier
identifier_with_form numbers is = record {
  octets = identifier_content numbers ++ replicate (63 - length (identifier_content numbers)) 0;
  count = length (identifier_content numbers);
  is_content = known_content_form numbers is;
}

-- The same by the test's answer, and 0.0 if the numbers are no identifier.
abbrev pub identifier_by : (numbers : List ℕ) (test : Bool) → is_identifier numbers ≡ test → ObjectIdentifier
identifier_by numbers true e = identifier_with_form numbers (known_by_test numbers e)
identifier_by numbers false e = identifier_with_form (0 ∷ []) known_zero

-- The identifier with these numbers, and 0.0 if there is none.
unfoldable pub identifier_from : List ℕ → ObjectIdentifier
identifier_from numbers = identifier_by numbers (is_identifier numbers) refl
