-- What the example of the crate's page writes.
use Rattle.std.specs.Prelude.{ℕ, Bool, List}
use Rattle.asn1_core.specs.Tag.{universal}
use Rattle.asn1_core.specs.Element.{element, element_encoding}
use Rattle.asn1_core.specs.Boolean.{bool_octets}

-- the encoding of a Boolean
abbrev pub bool_text : Bool → List ℕ
bool_text value = element_encoding (element (universal 1) (bool_octets value))
