-- The identifier with an identifier's numbers has these numbers.
use Rattle.std.proofs.Common.{◌≡◌, ◌∙◌, ℕ, Bool, true, false, List, length, ap, sym, subst, refl}
use Rattle.std.proofs.lemmas.Bool.{true≢false}
use Rattle.std.proofs.lemmas.List.{take_at}
use Rattle.asn1_values.specs.declared.object_identifier.ObjectIdentifier.{ObjectIdentifier}
use Rattle.asn1_values.specs.Identifier.{IsIdentifier, identifier_content, identifier_numbers, or_none}
use Rattle.asn1_values.specs.IdentifierValues.{identifier_of}
use Rattle.asn1_values.specs.Lemmas.Identifier.{numbers_in_identifier_content, IsIdentifierForm_InHand}
use Rattle.asn1.specs.IdentifierTests.{is_identifier}
use Rattle.asn1.specs.DefaultIdentifiers.{identifier_with_form, identifier_by, identifier_from}
use Rattle.asn1.specs.Lemmas.IdentifierTests.{is_identifier_IsIdentifier, IsIdentifier_is_identifier}

identifier_of_identifier_with_form : (numbers : List ℕ) (is : IsIdentifier numbers) → identifier_of (identifier_with_form numbers is) ≡ numbers
identifier_of_identifier_with_form numbers is = ap identifier_numbers (take_at (identifier_content numbers) _ (length (identifier_content numbers)) refl) ∙ ap or_none (numbers_in_identifier_content numbers is.small)

identifier_of_identifier_by : (numbers : List ℕ) (test : Bool) (e : is_identifier numbers ≡ test) → IsIdentifier numbers → identifier_of (identifier_by numbers test e) ≡ numbers
identifier_of_identifier_by numbers true e is = identifier_of_identifier_with_form numbers (is_identifier_IsIdentifier numbers e)
identifier_of_identifier_by numbers false e is = absurd (true≢false (sym (IsIdentifier_is_identifier numbers is) ∙ e))

pub identifier_of_default : (o : ObjectIdentifier) (numbers : List ℕ) → identifier_of o ≡ numbers → identifier_of o ≡ identifier_of (identifier_from numbers)
unfolding identifier_from
identifier_of_default o numbers e =
    let is : IsIdentifier numbers = subst IsIdentifier e (IsIdentifierForm_InHand o.octets o.count o.is_content).value in
    e ∙ sym (identifier_of_identifier_by numbers (is_identifier numbers) refl is)
