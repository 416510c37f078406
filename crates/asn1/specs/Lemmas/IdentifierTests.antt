-- The test of an object identifier, and the form in memory of one that passes.
use Rattle.std.proofs.Common.{◌≡◌, ℕ, ◌^◌, ◌-◌, true, List, [], ◌∷◌, ◌++◌, length, ap, ltb, refl}
use Rattle.std.specs.Prelude.{is_some, replicate}
use Rattle.std.specs.List.{list_all}
use Rattle.std.proofs.lemmas.Bool.{and_parts, and_from, ltb-true, lt-ltb, leb-true, le-leb}
use Rattle.asn1_core.specs.Base128.{number_octets}
use Rattle.asn1_values.specs.Identifier.{AllSmall, IsIdentifier, IsIdentifierForm, identifier_content}
use Rattle.asn1_values.specs.Lemmas.Identifier.{IsOctets_identifier_content, IsIdentifierForm_append_zeros, numbers_in_identifier_content, identifier_content_nonempty}
use Rattle.asn1.specs.IdentifierTests.{is_identifier}

list_all_AllSmall : (numbers : List ℕ) → list_all (λ n. ltb n (2 ^ 128)) numbers ≡ true → AllSmall numbers
list_all_AllSmall [] e = tt
list_all_AllSmall (n ∷ ns) e = let p = and_parts _ _ e in (ltb-true n (2 ^ 128) p.0, list_all_AllSmall ns p.1)

AllSmall_list_all : (numbers : List ℕ) → AllSmall numbers → list_all (λ n. ltb n (2 ^ 128)) numbers ≡ true
AllSmall_list_all [] small = refl
AllSmall_list_all (n ∷ ns) small = and_from _ _ (lt-ltb n (2 ^ 128) small.0) (AllSmall_list_all ns small.1)

pub is_identifier_IsIdentifier : (numbers : List ℕ) → is_identifier numbers ≡ true → IsIdentifier numbers
is_identifier_IsIdentifier numbers e =
    let p = and_parts _ _ e in
    let q = and_parts _ _ p.0 in
    record { some = ltb-true 0 (length numbers) q.0; small = list_all_AllSmall numbers q.1; few = leb-true (length (identifier_content numbers)) 63 p.1 }

pub IsIdentifier_is_identifier : (numbers : List ℕ) → IsIdentifier numbers → is_identifier numbers ≡ true
IsIdentifier_is_identifier numbers is = and_from _ _ (and_from _ _ (lt-ltb 0 (length numbers) is.some) (AllSmall_list_all numbers is.small)) (le-leb (length (identifier_content numbers)) 63 is.few)

pub IsIdentifierForm_identifier_content : (numbers : List ℕ) → IsIdentifier numbers → IsIdentifierForm (identifier_content numbers ++ replicate (63 - length (identifier_content numbers)) 0) (length (identifier_content numbers))
IsIdentifierForm_identifier_content numbers is = IsIdentifierForm_append_zeros (identifier_content numbers) (identifier_content_nonempty numbers is.some) is.few (ap is_some (numbers_in_identifier_content numbers is.small)) (IsOctets_identifier_content numbers is.small)

-- the identifier 0.0
pub IsIdentifier_zero : IsIdentifier (0 ∷ [])
unfolding number_octets
IsIdentifier_zero = is_identifier_IsIdentifier (0 ∷ []) refl
