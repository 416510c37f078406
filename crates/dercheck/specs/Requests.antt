-- What a line asks: a word, which names a type, and octets in hex.
use Rattle.std.specs.Prelude.{ℕ, ◌-◌, ◌^◌, ℤ, pos, ◌-ℤ◌, List, codes, Option, ◌≡◌, ◌∷◌, ◌++◌, Some, None, Result, Ok, Err}
use Rattle.std.specs.List.{find}
use Rattle.std.specs.Str.{bytes_eq}
use Rattle.std.specs.Global.{Vec}
use Rattle.hex.specs.Hex.{decode_of}
use Rattle.hex.specs.declared.error.FromHexError.{FromHexError}
use Rattle.asn1.specs.Tag.{universal}
use Rattle.asn1.specs.Boolean.{bool_content}
use Rattle.asn1.specs.Der.{Der, simple_der, tlv_der}
use Rattle.asn1.specs.Element.{Element}
use Rattle.asn1.specs.Sized.{sized_content}
use Rattle.asn1.specs.CoreTypes.{signed_der, unsigned_der}
use Rattle.asn1.specs.Types.{list_der, set_der}
use Rattle.asn1.specs.Encoding.{Content}
use Rattle.asn1.specs.EncodingLaws.{ContentLaws}
use Rattle.asn1.specs.LawsOf.Contents.{bool_laws, null_laws, octets_laws, sized_laws}
use Rattle.asn1.specs.LawsOf.Values.{signed_laws, unsigned_laws, bits_laws, utf8_laws, printable_laws, ia5_laws, visible_laws, utf16_laws, utf32_laws, identifier_laws, utc_laws, x509_laws, instant_laws}
use Rattle.asn1.specs.LawsOf.Lists.{set_content_laws}
use Rattle.asn1.specs.LawsOf.InHand.{sequence_content_laws}
use Rattle.asn1.specs.Octets.{null_content, octets_content}
use Rattle.asn1.specs.Values.{signed_content, unsigned_content}
use Rattle.asn1.specs.BitStrings.{bits_content}
use Rattle.asn1.specs.TextValues.{utf8_content, printable_content, ia5_content, visible_content, utf16_content, utf32_content}
use Rattle.asn1.specs.IdentifierValues.{identifier_basic}
use Rattle.asn1.specs.TimeValues.{utc_content, x509_content, instant_content}
use Rattle.asn1.specs.InHand.{sequence_content}
use Rattle.asn1.specs.SetTypes.{set_content}
use Rattle.dercheck.specs.declared.words.Word.{Word}
use Rattle.dercheck.specs.declared.words.Word.TheVariants as words
use Rattle.dercheck.specs.declared.words.TheConstants.Word.{ALL}
use Rattle.dercheck.specs.Lines.{split_once}

-- ---- the words, and the types that they name

-- How a word is spelled in a line.
abbrev pub word_text : Word → List ℕ
word_text words.Bool = codes "bool"
word_text words.Tlv = codes "tlv"
word_text words.I8 = codes "i8"
word_text words.U8 = codes "u8"
word_text words.I16 = codes "i16"
word_text words.U16 = codes "u16"
word_text words.I32 = codes "i32"
word_text words.U32 = codes "u32"
word_text words.I64 = codes "i64"
word_text words.U64 = codes "u64"
word_text words.Int = codes "int"
word_text words.Uint = codes "uint"
word_text words.Enum = codes "enum"
word_text words.Null = codes "null"
word_text words.Octets = codes "octets"
word_text words.Bits = codes "bits"
word_text words.Utf8 = codes "utf8"
word_text words.Printable = codes "printable"
word_text words.Ia5 = codes "ia5"
word_text words.Visible = codes "visible"
word_text words.Bmp = codes "bmp"
word_text words.Universal = codes "universal"
word_text words.Oid = codes "oid"
word_text words.UtcTime = codes "utctime"
word_text words.X509Time = codes "x509time"
word_text words.GenTime = codes "gentime"
word_text words.Seq = codes "seq"
word_text words.Set = codes "set"
word_text words.SeqOfInt = codes "seqof-int"
word_text words.SetOfInt = codes "setof-int"

-- the word with that spelling
abbrev pub word_of : List ℕ → Option Word
word_of octets = find (λ word. bytes_eq (word_text word) octets) ALL.now

-- a type, by what its values mean
pub record Asn1 : Type 1 where
  pub Value : Type 0
  pub der : Der Value

-- a type whose values are elements with one tag
abbrev pub simple_type : {M : Type 0} → (content : Content M) → ContentLaws content → Asn1
simple_type {M = M} content laws = record { Value = M; der = simple_der (λ value. value) content laws }

abbrev pub signed_type : ℕ → Asn1
signed_type bits = record { Value = ℤ; der = signed_der bits (λ value. value) }

abbrev pub unsigned_type : ℕ → Asn1
unsigned_type bits = record { Value = ℕ; der = unsigned_der bits (λ value. value) }

-- an integer of any length
abbrev pub int_der : Der ℤ
int_der = simple_der (λ value. value) signed_content signed_laws

-- the type that a word names
abbrev pub type_of : Word → Asn1
type_of words.Bool = simple_type bool_content bool_laws
type_of words.Tlv = record { Value = Element; der = tlv_der (λ value. value) }
type_of words.I8 = signed_type 8
type_of words.U8 = unsigned_type 8
type_of words.I16 = signed_type 16
type_of words.U16 = unsigned_type 16
type_of words.I32 = signed_type 32
type_of words.U32 = unsigned_type 32
type_of words.I64 = signed_type 64
type_of words.U64 = unsigned_type 64
type_of words.Int = simple_type signed_content signed_laws
type_of words.Uint = simple_type unsigned_content unsigned_laws
type_of words.Enum = simple_type (sized_content (universal 10) (pos 0) (pos (2 ^ 32) -ℤ pos 1)) (sized_laws _ _ _)
type_of words.Null = simple_type null_content null_laws
type_of words.Octets = simple_type octets_content octets_laws
type_of words.Bits = simple_type bits_content bits_laws
type_of words.Utf8 = simple_type utf8_content utf8_laws
type_of words.Printable = simple_type printable_content printable_laws
type_of words.Ia5 = simple_type ia5_content ia5_laws
type_of words.Visible = simple_type visible_content visible_laws
type_of words.Bmp = simple_type utf16_content utf16_laws
type_of words.Universal = simple_type utf32_content utf32_laws
type_of words.Oid = simple_type identifier_basic identifier_laws
type_of words.UtcTime = simple_type utc_content utc_laws
type_of words.X509Time = simple_type x509_content x509_laws
type_of words.GenTime = simple_type instant_content instant_laws
type_of words.Seq = simple_type sequence_content sequence_content_laws
type_of words.Set = simple_type set_content set_content_laws
type_of words.SeqOfInt = record { Value = List ℤ; der = list_der 0 (2 ^ 64 - 1) int_der (λ value. value) }
type_of words.SetOfInt = record { Value = List ℤ; der = set_der int_der (λ value. value) }

-- ---- the requests

-- A request: a word, one space, and octets in hex with letters of either case.
pub record IsRequest (line : List ℕ) (word : Word) (octets : List ℕ) : Type 0 where
  pub hex : List ℕ
  pub is : line ≡ word_text word ++ 32 ∷ hex
  pub decoded : decode_of hex ≡ Ok octets

-- the request of a word and its octets, if there are both
abbrev pub asked : Option Word → Result (List ℕ) FromHexError → Option (Word × List ℕ)
asked (Some word) (Ok octets) = Some (word, octets)
asked (Some word) (Err error) = None
asked None decoded = None

abbrev pub asked_by : Option (List ℕ × List ℕ) → Option (Word × List ℕ)
asked_by None = None
asked_by (Some parts) = asked (word_of parts.0) (decode_of parts.1)

-- The request that a line is, as a function.
abbrev pub request_of : List ℕ → Option (Word × List ℕ)
request_of line = asked_by (split_once 32 line)

-- the request of a Rust value
abbrev pub shown : Option (Word × Vec ℕ) → Option (Word × List ℕ)
shown None = None
shown (Some found) = Some (found.0, found.1.items)
