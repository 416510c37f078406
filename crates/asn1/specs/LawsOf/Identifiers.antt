-- The form in memory of an object identifier that is a default.
use Rattle.std.specs.Prelude.{◌≡◌, ℕ, ◌-◌, ◌++◌, List, [], ◌∷◌, length, replicate, true}
use Rattle.asn1_values.specs.Identifier.{IsIdentifier, IsIdentifierForm, identifier_content}
use Rattle.asn1.specs.IdentifierTests.{is_identifier}
use Rattle.asn1.specs.Lemmas.IdentifierTests.{IsIdentifierForm_identifier_content, is_identifier_IsIdentifier, IsIdentifier_zero}

-- The contents octets of an identifier, with zeros after them, have the form in memory.
pub known_content_form : (numbers : List ℕ) → IsIdentifier numbers → IsIdentifierForm (identifier_content numbers ++ replicate (63 - length (identifier_content numbers)) 0) (length (identifier_content numbers))
known_content_form = IsIdentifierForm_identifier_content

-- The test holds of identifiers alone.
pub known_by_test : (numbers : List ℕ) → is_identifier numbers ≡ true → IsIdentifier numbers
known_by_test = is_identifier_IsIdentifier

pub known_zero : IsIdentifier (0 ∷ [])
known_zero = IsIdentifier_zero
