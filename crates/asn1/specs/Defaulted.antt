-- What a field with a default means (X.690 11.5), and what is required of the equality of its type.
use Rattle.std.specs.Prelude.{◌≡◌, ◌⊎◌, ℕ, Bool, true, false, List, Ok}
use Rattle.asn1_core.specs.Options.{option_out}
use Rattle.asn1_core.specs.Encoding.{Encoding, no_content_but}
use Rattle.asn1.specs.Defaults.{same_encoding, unless, default_text, default_read}

-- Equal values mean the same, and values with the same encoding are equal.
pub record EqualityTells {V M : Type 0} (meaning : V → M) (encoding : M → List ℕ) (same : V → V → Bool) (a b : V) : Type 0 where
  pub means : same a b ≡ true → meaning a ≡ meaning b
  pub equal : encoding (meaning a) ≡ encoding (meaning b) → same a b ≡ true

-- Values with the same contents octets are equal.
abbrev pub ContentTells : {V M : Type 0} → (V → M) → (M → List ℕ) → (V → V → Bool) → V → V → Type 0
ContentTells meaning octets same a b = octets (meaning a) ≡ octets (meaning b) → same a b ≡ true

-- The values of which the laws of a field with a default speak: the default, and the type's values with another
-- encoding.
abbrev pub IsDefaultOr : {M : Type 0} → (M → List ℕ) → M → (M → Type 0) → M → Type 0
IsDefaultOr octets default valid m = (m ≡ default) ⊎ (valid m × (same_encoding octets m default ≡ false))

-- A value of the type, which is encoded as nothing if its encoding is the encoding of the default.
abbrev pub default_encoding : {A : Type 0} → Encoding A → A → Encoding A
default_encoding {A} d default = record {
  encoding = default_text d.encoding default;
  encodings = λ m. unless (same_encoding d.encoding m default) (d.encodings m);
  closures = d.closures;
  valid = IsDefaultOr d.encoding default d.valid;
  allowed = λ m. (m ≡ default) ⊎ d.allowed m;
  bounded = d.bounded;
  plain = d.plain;
  lawful = d.lawful × d.is_element;
  is_element = ⊥;
  takes_memory = d.takes_memory;
  is_read = d.is_read;
  runs_out = option_out d.accepts d.runs_out;
  accepts = d.accepts;
  read = default_read d.accepts d.encoding d.read default;
  stops = λ t rest. d.stops t rest ⊎ ((m : A) × (d.read t ≡ Ok (m, rest)));
  is_simple = ⊥;
  content = no_content_but d.content.tag;
}
