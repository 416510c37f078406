-- Object identifiers with the same numbers have the same octets in memory, since zeros follow the contents octets.
use Rattle.std.proofs.Common.{◌≡◌, ◌↔◌, IsTrue, ℕ, ◌-◌, List, ◌++◌, length, take, drop, replicate, nat_eq, sym, ap, ◌∙◌}
use Rattle.std.specs.Prelude.{◌&&◌}
use Rattle.std.specs.Cmp.Lexicographic.{pointwise}
use Rattle.std.proofs.lemmas.Bool.Decides.{Decides-and, Decides-eqb, Decides-like}
use Rattle.std.proofs.lemmas.List.{take-append-drop}
use Rattle.std.proofs.lemmas.Slice.Eq.{bytes_eq-Decides}
use Rattle.asn1_values.specs.declared.object_identifier.ObjectIdentifier.{ObjectIdentifier}
use Rattle.asn1_values.specs.Identifier.{identifier_content, identifier_numbers, IsIdentifierForm}
use Rattle.asn1_values.specs.IdentifierValues.{identifier_of}
use Rattle.asn1_values.specs.Lemmas.Identifier.{IsIdentifierForm_InHand, IsIdentifierForm_length}

same_form : (a b : List ℕ) (m n : ℕ) → IsIdentifierForm a m → IsIdentifierForm b n → identifier_numbers (take m a) ≡ identifier_numbers (take n b) → (a ≡ b) × (m ≡ n)
same_form a b m n f g same =
    let content : take m a ≡ take n b = (IsIdentifierForm_InHand a m f).content ∙ ap identifier_content same ∙ sym (IsIdentifierForm_InHand b n g).content in
    let count : m ≡ n = sym (IsIdentifierForm_length a m f) ∙ ap length content ∙ IsIdentifierForm_length b n g in
    let behind : drop m a ≡ drop n b = f.zeros ∙ ap (λ (k : ℕ). replicate (63 - k) 0) count ∙ sym g.zeros in (
      sym (take-append-drop m a) ∙ ap (λ (l : List ℕ). l ++ drop m a) content ∙ ap (λ (l : List ℕ). take n b ++ l) behind ∙ take-append-drop n b,
      count,
    )

pub same_fields : (a b : ObjectIdentifier) → identifier_of a ≡ identifier_of b → (a.octets ≡ b.octets) × (a.count ≡ b.count)
same_fields a b = same_form a.octets b.octets a.count b.count a.is_content b.is_content

pub equal_identifiers : (a b : ObjectIdentifier) → IsTrue (pointwise nat_eq a.octets b.octets && nat_eq a.count b.count) ↔ (identifier_of a ≡ identifier_of b)
equal_identifiers a b = Decides-like (pointwise nat_eq a.octets b.octets && nat_eq a.count b.count)
    (λ (h : (a.octets ≡ b.octets) × (a.count ≡ b.count)).
    ap (λ (l : List ℕ). identifier_numbers (take a.count l)) h.0 ∙ ap (λ (k : ℕ). identifier_numbers (take k b.octets)) h.1)
    (same_fields a b)
    (Decides-and (pointwise nat_eq a.octets b.octets) (nat_eq a.count b.count) (bytes_eq-Decides a.octets b.octets) (Decides-eqb a.count b.count))
