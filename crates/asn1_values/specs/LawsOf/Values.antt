-- The laws of the contents of this crate: the one place from which the definitions cite lemmas.
use Rattle.std.specs.Prelude.{ℕ, List, Bool, ◌≡◌, ◌<◌, ◌≤◌, ◌-◌, ◌++◌, length, replicate, is_some, true}
use Rattle.asn1_core.specs.Base256.{IsOctets}
use Rattle.asn1_core.specs.EncodingLaws.{ContentLaws}
use Rattle.asn1_core.specs.LawsOf.Encodings.{basic_laws}
use Rattle.asn1_core.specs.Lemmas.Integers.{integer_errors}
use Rattle.asn1_values.specs.Values.{signed_content, unsigned_content}
use Rattle.asn1_values.specs.BitStrings.{bits_content}
use Rattle.asn1_values.specs.Identifier.{numbers_in, IsIdentifierForm}
use Rattle.asn1_values.specs.IdentifierValues.{identifier_basic}
use Rattle.asn1_values.specs.Texts.{is_printable_text, is_ia5_text, is_visible_text, is_utf8_text, is_utf16_text, is_utf32_text}
use Rattle.asn1_values.specs.TextValues.{text_content, utf8_content, printable_content, ia5_content, visible_content, utf32_content, utf16_content}
use Rattle.asn1_values.specs.TimeValues.{utc_content, x509_content, instant_content}
use Rattle.asn1_values.specs.Lemmas.Big.{signed_consumes, signed_read_back, unsigned_consumes, unsigned_read_back, unsigned_errors}
use Rattle.asn1_values.specs.Lemmas.Bits.{bits_consumes, bits_read_back, bits_errors}
use Rattle.asn1_values.specs.Lemmas.Identifier.{identifier_consumes, identifier_read_back, identifier_errors, IsIdentifierForm_append_zeros}
use Rattle.asn1_values.specs.Lemmas.Texts.{text_consumes, text_read_back, text_errors}
use Rattle.asn1_values.specs.Lemmas.Times.{utc_consumes, utc_read_back, utc_errors, x509_consumes, x509_read_back, x509_errors}
use Rattle.asn1_values.specs.Lemmas.Fractions.{instant_consumes, instant_read_back, instant_errors}

pub signed_laws : ContentLaws signed_content
signed_laws = basic_laws _ (record { consumes = signed_consumes; read_back = signed_read_back; errors = integer_errors })

pub unsigned_laws : ContentLaws unsigned_content
unsigned_laws = basic_laws _ (record { consumes = unsigned_consumes; read_back = unsigned_read_back; errors = unsigned_errors })

pub bits_laws : ContentLaws bits_content
bits_laws = basic_laws _ (record { consumes = bits_consumes; read_back = bits_read_back; errors = bits_errors })

pub identifier_laws : ContentLaws identifier_basic
identifier_laws = basic_laws _ (record { consumes = identifier_consumes; read_back = identifier_read_back; errors = identifier_errors })

pub text_laws : (number : ℕ) (rule : List ℕ → Bool) → ContentLaws (text_content number rule)
text_laws number rule = basic_laws _ (record { consumes = text_consumes rule; read_back = text_read_back rule; errors = text_errors rule })

pub utf8_laws : ContentLaws utf8_content
utf8_laws = text_laws 12 is_utf8_text

pub printable_laws : ContentLaws printable_content
printable_laws = text_laws 19 is_printable_text

pub ia5_laws : ContentLaws ia5_content
ia5_laws = text_laws 22 is_ia5_text

pub visible_laws : ContentLaws visible_content
visible_laws = text_laws 26 is_visible_text

pub utf32_laws : ContentLaws utf32_content
utf32_laws = text_laws 28 is_utf32_text

pub utf16_laws : ContentLaws utf16_content
utf16_laws = text_laws 30 is_utf16_text

pub utc_laws : ContentLaws utc_content
utc_laws = basic_laws _ (record { consumes = utc_consumes; read_back = utc_read_back; errors = utc_errors })

pub x509_laws : ContentLaws x509_content
x509_laws = basic_laws _ (record { consumes = x509_consumes; read_back = x509_read_back; errors = x509_errors })

pub instant_laws : ContentLaws instant_content
instant_laws = basic_laws _ (record { consumes = instant_consumes; read_back = instant_read_back; errors = instant_errors })

-- Numbers in base 128, with zeros after them, have the form in memory.
pub known_form : (t : List ℕ) → 0 < length t → length t ≤ 63 → is_some (numbers_in t) ≡ true → IsOctets t → IsIdentifierForm (t ++ replicate (63 - length t) 0) (length t)
known_form = IsIdentifierForm_append_zeros
