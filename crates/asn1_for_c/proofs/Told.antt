-- What is told of a result says whether it is `ShortData`, and how many octets an element has.
use Rattle.std.proofs.Common.{◌≡◌, ℕ, ◌+◌, ◌≤◌, ◌-◌, ◌++◌, List, length, Result, Ok, Err, sym, ap, ◌∙◌, arith, refl}
use Rattle.std.proofs.lemmas.List.{length-append}
use Rattle.asn1.specs.declared.ParseErrorKind.{ParseErrorKind}
use Rattle.asn1.specs.declared.ParseErrorKind.TheVariants.{InvalidValue, InvalidTag, InvalidLength, InvalidSize, UnexpectedTag, ShortData, IntegerOverflow, ExtraData, InvalidSetOrdering, EncodedDefault, OidTooLong, UnknownDefinedBy, AllocationError}
use Rattle.asn1.specs.Element.{Element, element_encoding, IsLeadingElement}
use Rattle.asn1.specs.Laws.{IsShort, with_more}
use Rattle.asn1.specs.Length.{length_octets}
use Rattle.asn1.specs.Tag.{identifier_octets}
use Rattle.asn1_for_c.specs.declared.elements.Asn1Element.{Asn1Element}
use Rattle.asn1_for_c.specs.declared.errors.Asn1Error.{Asn1Error}
use Rattle.asn1_for_c.specs.Errors.{told}
use Rattle.asn1_for_c.specs.Elements.{Leaves}

-- A result is `ShortData` only if its number says so.
pub told_not_IsShort : {A : Type 0} (r : Result A ParseErrorKind) → ¬ ((told r).number ≡ 6) → ¬ IsShort r
told_not_IsShort (Ok x) other short = short
told_not_IsShort (Err InvalidValue) other short = short
told_not_IsShort (Err InvalidTag) other short = short
told_not_IsShort (Err InvalidLength) other short = short
told_not_IsShort (Err (InvalidSize min max actual)) other short = short
told_not_IsShort (Err (UnexpectedTag actual)) other short = short
told_not_IsShort (Err (ShortData needed)) other short = other refl
told_not_IsShort (Err IntegerOverflow) other short = short
told_not_IsShort (Err ExtraData) other short = short
told_not_IsShort (Err InvalidSetOrdering) other short = short
told_not_IsShort (Err EncodedDefault) other short = short
told_not_IsShort (Err OidTooLong) other short = short
told_not_IsShort (Err UnknownDefinedBy) other short = short
told_not_IsShort (Err AllocationError) other short = short

-- If the number says so, it is.
pub told_ShortData : {A : Type 0} (r : Result A ParseErrorKind) → (told r).number ≡ 6 → r ≡ Err (ShortData (told r).needed)
told_ShortData (Ok x) six = absurd (omega (arith, six))
told_ShortData (Err InvalidValue) six = absurd (omega (arith, six))
told_ShortData (Err InvalidTag) six = absurd (omega (arith, six))
told_ShortData (Err InvalidLength) six = absurd (omega (arith, six))
told_ShortData (Err (InvalidSize min max actual)) six = absurd (omega (arith, six))
told_ShortData (Err (UnexpectedTag actual)) six = absurd (omega (arith, six))
told_ShortData (Err (ShortData needed)) six = refl
told_ShortData (Err IntegerOverflow) six = absurd (omega (arith, six))
told_ShortData (Err ExtraData) six = absurd (omega (arith, six))
told_ShortData (Err InvalidSetOrdering) six = absurd (omega (arith, six))
told_ShortData (Err EncodedDefault) six = absurd (omega (arith, six))
told_ShortData (Err OidTooLong) six = absurd (omega (arith, six))
told_ShortData (Err UnknownDefinedBy) six = absurd (omega (arith, six))
told_ShortData (Err AllocationError) six = absurd (omega (arith, six))

-- No error has the number 0.
pub told_number_not_zero : (kind : ParseErrorKind) {P : Type 0} → (told {A = Unit {0}} (Err kind)).number ≡ 0 → P
told_number_not_zero InvalidValue none = absurd (omega (arith, none))
told_number_not_zero InvalidTag none = absurd (omega (arith, none))
told_number_not_zero InvalidLength none = absurd (omega (arith, none))
told_number_not_zero (InvalidSize min max actual) none = absurd (omega (arith, none))
told_number_not_zero (UnexpectedTag actual) none = absurd (omega (arith, none))
told_number_not_zero (ShortData needed) none = absurd (omega (arith, none))
told_number_not_zero IntegerOverflow none = absurd (omega (arith, none))
told_number_not_zero ExtraData none = absurd (omega (arith, none))
told_number_not_zero InvalidSetOrdering none = absurd (omega (arith, none))
told_number_not_zero EncodedDefault none = absurd (omega (arith, none))
told_number_not_zero OidTooLong none = absurd (omega (arith, none))
told_number_not_zero UnknownDefinedBy none = absurd (omega (arith, none))
told_number_not_zero AllocationError none = absurd (omega (arith, none))

-- Header and contents octets of an element together.
header_and_contents : (e : Element) → (length (element_encoding e) - length e.content) + length e.content ≡ length (element_encoding e)
unfolding element_encoding
header_and_contents e = omega (arith, length-append (identifier_octets e.tag) (length_octets (length e.content) ++ e.content), length-append (length_octets (length e.content)) e.content)

module _ (old new : Asn1Element) (found : Asn1Error) where
  -- What is told stays the same with more remaining octets.
  pub Leaves_with_more : (answer : Result (Element × List ℕ) ParseErrorKind) (more : List ℕ) → Leaves old new found answer → Leaves old new found (with_more answer more)
  Leaves_with_more (Ok x) more l = record { element = l.element; error = l.error }
  Leaves_with_more (Err kind) more l = record { element = l.element; error = l.error }

  -- An element is within the octets.
  pub Leaves_length_le : (octets : List ℕ) (answer : Result (Element × List ℕ) ParseErrorKind) → IsLeadingElement octets answer → Leaves old new found answer → found.number ≡ 0
      → new.header_length + new.contents_length ≤ length octets
  Leaves_length_le octets (Ok x) is l none =
      let whole = ap length is.1 ∙ length-append (element_encoding x.0) x.1 in
      let header = ap (λ (e : Asn1Element). e.header_length) l.element in
      let contents = ap (λ (e : Asn1Element). e.contents_length) l.element in
      omega (arith, whole, header, contents, header_and_contents x.0)
  Leaves_length_le octets (Err kind) is l none = told_number_not_zero kind (ap (λ (e : Asn1Error). e.number) (sym l.error) ∙ none)
