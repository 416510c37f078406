-- The words of the headline.
use Rattle.std.specs.Prelude.{ℕ, ◌≡◌, List, ◌++◌}
use Rattle.asn1_core.specs.Element.{Element, element_encoding, IsReadable}
pub use Rattle.asn1_core.specs.Reads.{Encodes}

-- The octets begin with this readable element, and after it these remain.
pub record BeginsWith (octets : List ℕ) (e : Element) (rest : List ℕ) : Type 0 where
  pub readable : IsReadable e
  pub is : octets ≡ element_encoding e ++ rest
