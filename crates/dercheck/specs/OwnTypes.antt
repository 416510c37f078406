-- What the types of `own_types` mean.
use Rattle.std.specs.Prelude.{ℕ, ℤ, List, [], ◌∷◌, nat_eq, if◌then◌else◌, Result, Ok, Err}
use Rattle.asn1.specs.declared.ParseErrorKind.TheVariants.{InvalidValue}
use Rattle.asn1.specs.Tag.{universal}
use Rattle.asn1.specs.ReadError.{ReadError, read_error}
use Rattle.asn1.specs.Encoding.{Content, basic}
use Rattle.asn1.specs.Der.{simple_der}
use Rattle.asn1.specs.declared.ObjectIdentifier.{ObjectIdentifier}
use Rattle.asn1.specs.DefinedBy.{DefinedBy}
use Rattle.asn1.specs.IdentifierValues.{identifier_basic, identifier_of}
use Rattle.asn1.specs.LawsOf.Values.{identifier_laws}
use Rattle.asn1.specs.CoreTypes.{signed_der}
use Rattle.asn1.specs.Variants.{identifier_with, variant}
use Rattle.asn1.specs.ItemsAndValues.{ItemAndValue}
use Rattle.dercheck.specs.declared.own_types.reason.Reason.{Reason}
use Rattle.dercheck.specs.declared.own_types.reason.Reason.TheVariants.{Unspecified, Superseded}
use Rattle.dercheck.specs.declared.own_types.my_sequence.Content as my_sequence
use Rattle.dercheck.specs.declared.own_types.my_sequence.Content.TheVariants.{SomeVariant}

-- ---- a reason: an enumerated value (X.690 8.4) of one of two numbers

-- The contents octets.
abbrev pub reason_text : Reason → List ℕ
reason_text Unspecified = 0 ∷ []
reason_text Superseded = 4 ∷ []

-- What reading contents octets returns.
abbrev pub read_reason : List ℕ → Result Reason ReadError
read_reason [] = Err (read_error InvalidValue)
read_reason (octet ∷ []) = if nat_eq octet 0 then Ok Unspecified else if nat_eq octet 4 then Ok Superseded else Err (read_error InvalidValue)
read_reason (octet ∷ next ∷ octets) = Err (read_error InvalidValue)

-- The contents octets of a `Reason`.
abbrev pub reason_content : Content Reason
reason_content = basic (record {
  tag = universal 10;
  encoding = reason_text;
  valid = λ m. Unit {0};
  read = read_reason;
})

-- ---- a structure whose content is defined by the object identifier before it

-- The object identifier of the one variant, 1.2.3. Its first number encodes the first two arcs.
abbrev pub some_numbers : List ℕ
some_numbers = 42 ∷ 3 ∷ []

abbrev pub content_meaning : my_sequence.Content → ℤ
content_meaning (SomeVariant number) = number

abbrev pub content_by : DefinedBy (List ℕ) my_sequence.Content
content_by = variant (identifier_with some_numbers) (signed_der 32 (λ n. n)) content_meaning

-- what the object identifier and the content mean, together
abbrev pub content_both : ItemAndValue ObjectIdentifier my_sequence.Content
content_both = record { item = simple_der identifier_of identifier_basic identifier_laws; value = content_by }
