-- The types of include/asn1.h, by their numbers, and what their values and encodings are.
use Rattle.std.specs.Prelude.{ℕ, ◌-◌, ◌^◌, ◌==◌, ℤ, pos, ◌-ℤ◌, List, Option, ◌≡◌, ◌⊎◌, Some, None, Result, Ok, IsErr}
use Rattle.std.specs.List.{find}
use Rattle.asn1.specs.Tag.{universal}
use Rattle.asn1.specs.Boolean.{bool_content}
use Rattle.asn1.specs.Der.{Der, simple_der, tlv_der}
use Rattle.asn1.specs.Element.{Element}
use Rattle.asn1.specs.Sized.{sized_content}
use Rattle.asn1.specs.CoreTypes.{signed_der, unsigned_der}
use Rattle.asn1.specs.Types.{list_der, set_der}
use Rattle.asn1.specs.Encoding.{Content}
use Rattle.asn1.specs.EncodingLaws.{ContentLaws}
use Rattle.asn1.specs.LawsOf.Contents.{bool_laws, null_laws, octets_laws, sized_laws}
use Rattle.asn1.specs.LawsOf.Values.{signed_laws, unsigned_laws, bits_laws, utf8_laws, printable_laws, ia5_laws, visible_laws, utf16_laws, utf32_laws, identifier_laws, utc_laws, x509_laws, instant_laws}
use Rattle.asn1.specs.LawsOf.Lists.{set_content_laws}
use Rattle.asn1.specs.LawsOf.InHand.{sequence_content_laws}
use Rattle.asn1.specs.Octets.{null_content, octets_content}
use Rattle.asn1.specs.Values.{signed_content, unsigned_content}
use Rattle.asn1.specs.BitStrings.{bits_content}
use Rattle.asn1.specs.TextValues.{utf8_content, printable_content, ia5_content, visible_content, utf16_content, utf32_content}
use Rattle.asn1.specs.IdentifierValues.{identifier_basic}
use Rattle.asn1.specs.TimeValues.{utc_content, x509_content, instant_content}
use Rattle.asn1.specs.InHand.{sequence_content}
use Rattle.asn1.specs.SetTypes.{set_content}
use Rattle.asn1.specs.ReadError.{ReadError}
use Rattle.asn1.specs.Reading.{Fits, whole}
use Rattle.asn1_for_c.specs.declared.errors.Asn1Error.{Asn1Error}
use Rattle.asn1_for_c.specs.declared.types.TypeName.{TypeName}
use Rattle.asn1_for_c.specs.declared.types.TypeName.TheVariants as types
use Rattle.asn1_for_c.specs.declared.types.TheConstants.TypeName.{ALL}
use Rattle.asn1_for_c.specs.Errors.{told_read, without_details, unknown_type, left_by}
use Rattle.asn1_for_c.specs.Locations.{told_location}
use Rattle.asn1_for_c.specs.Texts.{LeavesText}

-- ---- the numbers

-- The number of a type, as `include/asn1.h` has it.
abbrev pub type_number : TypeName → ℕ
type_number types.Bool = 1
type_number types.Tlv = 2
type_number types.I8 = 3
type_number types.U8 = 4
type_number types.I16 = 5
type_number types.U16 = 6
type_number types.I32 = 7
type_number types.U32 = 8
type_number types.I64 = 9
type_number types.U64 = 10
type_number types.Int = 11
type_number types.Uint = 12
type_number types.Enum = 13
type_number types.Null = 14
type_number types.Octets = 15
type_number types.Bits = 16
type_number types.Utf8 = 17
type_number types.Printable = 18
type_number types.Ia5 = 19
type_number types.Visible = 20
type_number types.Bmp = 21
type_number types.Universal = 22
type_number types.Oid = 23
type_number types.UtcTime = 24
type_number types.X509Time = 25
type_number types.GenTime = 26
type_number types.Seq = 27
type_number types.Set = 28
type_number types.SeqOfInt = 29
type_number types.SetOfInt = 30

-- The type with this number.
abbrev pub type_numbered : ℕ → Option TypeName
type_numbered number = find (λ one. type_number one == number) ALL.now

-- ---- the types

-- A type, by what its values mean
pub record Asn1 : Type 1 where
  pub Value : Type 0
  pub der : Der Value

-- A type whose values are elements with one tag
abbrev pub simple_type : {M : Type 0} → (content : Content M) → ContentLaws content → Asn1
simple_type {M = M} content laws = record { Value = M; der = simple_der (λ value. value) content laws }

abbrev pub signed_type : ℕ → Asn1
signed_type bits = record { Value = ℤ; der = signed_der bits (λ value. value) }

abbrev pub unsigned_type : ℕ → Asn1
unsigned_type bits = record { Value = ℕ; der = unsigned_der bits (λ value. value) }

-- An integer of any length
abbrev pub int_der : Der ℤ
int_der = simple_der (λ value. value) signed_content signed_laws

-- The type, by what its values mean.
abbrev pub type_of : TypeName → Asn1
type_of types.Bool = simple_type bool_content bool_laws
type_of types.Tlv = record { Value = Element; der = tlv_der (λ value. value) }
type_of types.I8 = signed_type 8
type_of types.U8 = unsigned_type 8
type_of types.I16 = signed_type 16
type_of types.U16 = unsigned_type 16
type_of types.I32 = signed_type 32
type_of types.U32 = unsigned_type 32
type_of types.I64 = signed_type 64
type_of types.U64 = unsigned_type 64
type_of types.Int = simple_type signed_content signed_laws
type_of types.Uint = simple_type unsigned_content unsigned_laws
type_of types.Enum = simple_type (sized_content (universal 10) (pos 0) (pos (2 ^ 32) -ℤ pos 1)) (sized_laws _ _ _)
type_of types.Null = simple_type null_content null_laws
type_of types.Octets = simple_type octets_content octets_laws
type_of types.Bits = simple_type bits_content bits_laws
type_of types.Utf8 = simple_type utf8_content utf8_laws
type_of types.Printable = simple_type printable_content printable_laws
type_of types.Ia5 = simple_type ia5_content ia5_laws
type_of types.Visible = simple_type visible_content visible_laws
type_of types.Bmp = simple_type utf16_content utf16_laws
type_of types.Universal = simple_type utf32_content utf32_laws
type_of types.Oid = simple_type identifier_basic identifier_laws
type_of types.UtcTime = simple_type utc_content utc_laws
type_of types.X509Time = simple_type x509_content x509_laws
type_of types.GenTime = simple_type instant_content instant_laws
type_of types.Seq = simple_type sequence_content sequence_content_laws
type_of types.Set = simple_type set_content set_content_laws
type_of types.SeqOfInt = record { Value = List ℤ; der = list_der 0 (2 ^ 64 - 1) int_der (λ value. value) }
type_of types.SetOfInt = record { Value = List ℤ; der = set_der int_der (λ value. value) }

-- What reading octets to their end returns, at a type.
abbrev pub reading : (one : TypeName) → List ℕ → Result (type_of one).der.Meaning ReadError
reading one octets = whole ((type_of one).der.read octets)

-- What is told of octets, at the type that has a number, if there is one.
abbrev pub told_at : Option TypeName → List ℕ → Asn1Error
told_at None octets = without_details unknown_type
told_at (Some one) octets = told_read (reading one octets)

-- The octets are the encoding of a value of the type, which is valid and within the type's bounds.
abbrev pub IsEncoding : {V : Type 0} → Der V → List ℕ → Type 0
IsEncoding d octets = (value : d.Meaning) × (octets ≡ d.encoding value) × d.valid value × d.allowed value

-- A call returned this number and told this error of octets, at a type: the error that reading all of them gives. The
-- number is 0 exactly if they are the encoding of a value, as far as the library reads any.
abbrev pub Checks : {V : Type 0} → Der V → List ℕ → ℕ → Asn1Error → Type 0
Checks d octets number error = (error ≡ told_read (whole (d.read octets))) × (number ≡ error.number) × (number ≡ 0 → IsEncoding d octets)
    × (IsEncoding d octets → Fits octets → number ≡ 0)

-- What octets have to be, and what error and location may be told of them.
pub record Form : Type 1 where
  pub IsOne : List ℕ → Type 0
  pub IsTold : List ℕ → Asn1Error → List ℕ → Type 0

-- The encoding of a value of a type: what reading all of the octets gives is told.
abbrev pub form : {V : Type 0} → Der V → Form
form d = record {
  IsOne = IsEncoding d;
  IsTold = λ octets error location. (error ≡ told_read (whole (d.read octets))) × (location ≡ told_location (whole (d.read octets)));
}

-- One form or another.
abbrev pub either : Form → Form → Form
either a b = record {
  IsOne = λ octets. a.IsOne octets ⊎ b.IsOne octets;
  IsTold = λ octets error location. a.IsTold octets error location ⊎ b.IsTold octets error location;
}

-- The same as `Checks` at a form, with the location of the error.
abbrev pub ChecksForm : Form → List ℕ → ℕ → Asn1Error → List ℕ → Type 0
ChecksForm f octets number error location = f.IsTold octets error location × (number ≡ error.number) × (number ≡ 0 → f.IsOne octets)
    × (f.IsOne octets → Fits octets → number ≡ 0)

-- The same of a call that leaves the location in a buffer.
abbrev pub LeavesChecked : Form → List ℕ → ℕ → Asn1Error → List ℕ → List ℕ → ℕ → Type 0
LeavesChecked f octets number error old new count = (location : List ℕ) × ChecksForm f octets number error location × LeavesText location old new count

-- What a call leaves in the places for a value and for an error, if reading gives this.
pub record LeavesRead {M S : Type 0} (shown : M → S) (old new : S) (found : Asn1Error) (read : Result M ReadError) : Type 0 where
  pub value : new ≡ left_by shown old read
  pub error : found ≡ told_read read

-- A call returned the value that reading gives, or `None` if reading gives an error.
abbrev pub IsReadAs : {V M : Type 0} → (V → M) → Option V → Result M ReadError → Type 0
IsReadAs meaning (Some value) read = read ≡ Ok (meaning value)
IsReadAs meaning None read = IsErr read
