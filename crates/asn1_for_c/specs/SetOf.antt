-- The contents octets of a SET OF, from its elements in any order (X.690 11.6).
use Rattle.std.specs.Prelude.{ℕ, ◌≡◌, ◌<◌, ◌⊎◌, List, ◌++◌, length, Err}
use Rattle.asn1.specs.declared.ParseErrorKind.{ParseErrorKind}
use Rattle.asn1.specs.Element.{leading_element}
use Rattle.std.specs.List.{concat, AllByRecursion}
use Rattle.asn1.specs.Listing.{IsElementEncoding, IsListing}
use Rattle.asn1_for_c.specs.declared.errors.Asn1Error.{Asn1Error}
use Rattle.asn1_for_c.specs.Errors.{error_of, without_details}
use Rattle.asn1_for_c.specs.Texts.{LeavesText, text_number}

-- The octets are these encodings of elements, one after another.
pub record AreElements (octets : List ℕ) (encodings : List (List ℕ)) : Type 0 where
  pub each : AllByRecursion IsElementEncoding encodings
  pub joined : octets ≡ concat encodings

-- The octets are elements, and then some that begin with none: the error of these.
pub record StopsAt (octets : List ℕ) (kind : ParseErrorKind) : Type 0 where
  pub encodings : List (List ℕ)
  pub rest : List ℕ
  pub each : AllByRecursion IsElementEncoding encodings
  pub joined : octets ≡ concat encodings ++ rest
  pub some : 0 < length rest
  pub stops : leading_element rest ≡ Err kind

-- The octets are elements, and the contents octets are their encodings in ascending order.
pub record IsSetOf (octets contents : List ℕ) : Type 0 where
  pub encodings : List (List ℕ)
  pub elements : AreElements octets encodings
  pub listed : List (List ℕ)
  pub listing : IsListing encodings listed
  pub is : contents ≡ concat listed

-- What a call leaves in a buffer, and what it tells, of octets: the contents octets of a set of the elements, if there
-- is room for them; or the error of the octets.
abbrev pub LeavesSetOf : List ℕ → List ℕ → List ℕ → ℕ → Asn1Error → Type 0
LeavesSetOf octets old new count found =
    ((contents : List ℕ) × IsSetOf octets contents × LeavesText contents old new count × (found ≡ without_details (text_number contents old)))
    ⊎ ((kind : ParseErrorKind) × StopsAt octets kind × (new ≡ old) × (count ≡ 0) × (found ≡ error_of kind))
