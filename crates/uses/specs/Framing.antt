-- Octets of a stream, which are cut into elements (X.690 8.1.1).
use Rattle.std.specs.Prelude.{◌≡◌, ℕ, List, Option, Some, None, Result, Err, IsErr}
use Rattle.std.specs.Iterator.{YieldsThen}
use Rattle.std.specs.List.{FoldsTo}
use Rattle.asn1.specs.Element.{Element, leading_element}
use Rattle.asn1.specs.Headline.{BeginsWith}
use Rattle.asn1.specs.Tlv.{element_of}
use Rattle.asn1.specs.declared.ParseErrorKind.{ParseErrorKind}
use Rattle.asn1.specs.declared.ParseErrorKind.TheVariants.{ShortData}
use Rattle.asn1.specs.declared.Tlv.{Tlv}

-- One step: the element at the start of the octets is cut off, and the octets after it remain; or the octets begin with
-- no whole element, and all of them remain.
abbrev pub CutsOff : List ℕ → Option Tlv → List ℕ → Type 0
CutsOff octets (Some element) rest = BeginsWith octets (element_of element) rest
CutsOff octets None rest = (rest ≡ octets) × IsErr (leading_element octets)

-- The octets are these elements, cut off one after another, and then the rest, which begins with no whole element.
abbrev pub AreCut : List ℕ → List Tlv → List ℕ → Type 0
AreCut octets elements rest = YieldsThen CutsOff octets elements None rest

-- Steps, as the calls of a closure that changes, lead over all of these, in order.
abbrev pub TakesEach : {F A : Type 0} → (F → A → F → Type 0) → F → List A → Type 0
TakesEach {F} step take all = (last : F) × FoldsTo step take all last

-- How many octets an unfinished element lacks at least.
abbrev pub lacking : Result (Element × List ℕ) ParseErrorKind → Option ℕ
lacking (Err (ShortData needed)) = Some needed
lacking _ = None
