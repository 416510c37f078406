-- The octets of a NumericString (X.690 8.23), and its `Content`.
use Rattle.std.specs.Prelude.{ℕ, List}
use Rattle.asn1.specs.declared.numeric.NumericString.{NumericString}
use Rattle.asn1_core.specs.Encoding.{Content}
use Rattle.asn1_values.specs.TextValues.{text_content}
use Rattle.asn1.specs.Numeric.{is_numeric_text}

-- The octets of a `NumericString`.
abbrev pub numeric_octets : NumericString → List ℕ
numeric_octets s = s.text.now

-- The contents octets of a NumericString, with the tag 18.
abbrev pub numeric_content : Content (List ℕ)
numeric_content = text_content 18 is_numeric_text
