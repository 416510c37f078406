-- The elements of include/asn1.h.
use Rattle.std.specs.Prelude.{ℕ, ◌≡◌, ◌-◌, List, length, Result}
use Rattle.asn1.specs.declared.ParseErrorKind.{ParseErrorKind}
use Rattle.asn1.specs.Tag.{tag_class, tag_constructed, tag_number, class_number}
use Rattle.asn1.specs.Element.{Element, element_encoding}
use Rattle.asn1_for_c.specs.declared.elements.Asn1Element.{Asn1Element}
use Rattle.asn1_for_c.specs.declared.errors.Asn1Error.{Asn1Error}
use Rattle.asn1_for_c.specs.Errors.{told, left_by}

-- What is shown of an element: its tag, and how many octets its header and its contents have.
abbrev pub shown_element : Element → Asn1Element
shown_element e = record {
  number = tag_number e.tag;
  class = class_number (tag_class e.tag);
  constructed = tag_constructed e.tag;
  header_length = length (element_encoding e) - length e.content;
  contents_length = length e.content;
}

-- What a call leaves in the places for an element and for an error, if this is what octets begin with.
pub record Leaves (old new : Asn1Element) (found : Asn1Error) (answer : Result (Element × List ℕ) ParseErrorKind) : Type 0 where
  pub element : new ≡ left_by (λ begins. shown_element begins.0) old answer
  pub error : found ≡ told answer
