-- The octets of Rust's character strings, and the `Content` of each type.
use Rattle.std.specs.Prelude.{ℕ, List, Bool}
use Rattle.asn1_values.specs.declared.values.texts.PrintableString.{PrintableString}
use Rattle.asn1_values.specs.declared.values.texts.IA5String.{IA5String}
use Rattle.asn1_values.specs.declared.values.texts.VisibleString.{VisibleString}
use Rattle.asn1_values.specs.declared.values.texts.Utf8String.{Utf8String}
use Rattle.asn1_values.specs.declared.values.wide_texts.BMPString.{BMPString}
use Rattle.asn1_values.specs.declared.values.wide_texts.UniversalString.{UniversalString}
use Rattle.asn1_core.specs.Tag.{universal}
use Rattle.asn1_core.specs.Encoding.{Content, basic}
use Rattle.asn1_values.specs.Texts.{IsTextOf, read_text, is_printable_text, is_ia5_text, is_visible_text, is_utf8_text, is_utf16_text, is_utf32_text}

-- The octets of a `PrintableString`.
abbrev pub printable_octets : PrintableString → List ℕ
printable_octets s = s.text.now

-- The octets of an `IA5String`.
abbrev pub ia5_octets : IA5String → List ℕ
ia5_octets s = s.text.now

-- The octets of a `VisibleString`.
abbrev pub visible_octets : VisibleString → List ℕ
visible_octets s = s.text.now

-- The octets of a `Utf8String`.
abbrev pub utf8_octets : Utf8String → List ℕ
utf8_octets s = s.text.now

-- The octets of a `BMPString`.
abbrev pub bmp_octets : BMPString → List ℕ
bmp_octets s = s.octets.now

-- The octets of a `UniversalString`.
abbrev pub universal_octets : UniversalString → List ℕ
universal_octets s = s.octets.now

-- The `Content` of the type with a universal tag of this number.
abbrev pub text_content : ℕ → (List ℕ → Bool) → Content (List ℕ)
text_content number rule = basic (record {
  tag = universal number;
  encoding = λ octets. octets;
  valid = IsTextOf rule;
  read = read_text rule;
})

-- The contents octets of a UTF8String, with the tag 12.
abbrev pub utf8_content : Content (List ℕ)
utf8_content = text_content 12 is_utf8_text

-- The contents octets of a PrintableString, with the tag 19.
abbrev pub printable_content : Content (List ℕ)
printable_content = text_content 19 is_printable_text

-- The contents octets of an IA5String, with the tag 22.
abbrev pub ia5_content : Content (List ℕ)
ia5_content = text_content 22 is_ia5_text

-- The contents octets of a VisibleString, with the tag 26.
abbrev pub visible_content : Content (List ℕ)
visible_content = text_content 26 is_visible_text

-- The contents octets of a UniversalString, with the tag 28.
abbrev pub utf32_content : Content (List ℕ)
utf32_content = text_content 28 is_utf32_text

-- The contents octets of a BMPString, with the tag 30.
abbrev pub utf16_content : Content (List ℕ)
utf16_content = text_content 30 is_utf16_text
