-- What is read and written of a type, over its abstract values: the data of a type's meaning, and of the content of a
-- simple type. Nothing here is proved; what holds of these data `EncodingLaws` says.
use Rattle.std.specs.Prelude.{ℕ, ◌<◌, ◌^◌, ◌≡◌, List, [], Result, Bool, true, Option}
use Rattle.asn1_core.specs.declared.tag.Tag.{Tag}
use Rattle.asn1_core.specs.declared.parser.Place.{Place}
use Rattle.asn1_core.specs.Tag.{tag_eq, universal}
use Rattle.asn1_core.specs.Element.{Element, element, element_encoding}
use Rattle.asn1_core.specs.ReadError.{ReadError}
use Rattle.asn1_core.specs.Writing.{IsElementOf}
use Rattle.asn1_core.specs.Reading.{simple, simple_out, simple_stops, framed_element, tlv_stops, rejects_all}
use Rattle.asn1_core.specs.Options.{IfThere, option_octets, option_encodings, option_read, option_out}

-- the content of a simple type with abstract values of type M: its contents octets
pub record Content (M : Type 0) : Type 1 where
  pub tag : Tag
  -- the contents octets of a value
  pub encoding : M → List ℕ
  -- what a write may append: the contents octets, or what a closure may append
  pub encodings : M → List ℕ → Type 0
  -- what a write requires of the closures in a value
  pub closures : M → Type 0
  -- the values of which the laws speak
  pub valid : M → Type 0
  -- the values that may be read back
  pub allowed : M → Type 0
  -- the type has bounds, so that some valid values may not be read back
  pub bounded : Type 0
  -- a write appends the contents octets and nothing else
  pub plain : Type 0
  pub lawful : Type 0
  pub takes_memory : Type 0
  -- values are read, and not only written
  pub is_read : Type 0
  -- locations at which memory may run out
  pub runs_out : List ℕ → List Place → Type 0
  pub read : List ℕ → Result M ReadError

-- The encodings of a type with abstract values of type M, for reading and writing alike.
pub record Encoding (M : Type 0) : Type 1 where
  -- the encoding of a value
  pub encoding : M → List ℕ
  -- what a write may append: the encoding, or what a closure may append
  pub encodings : M → List ℕ → Type 0
  -- what a write requires of the closures in a value
  pub closures : M → Type 0
  -- the values of which the laws speak: their numbers are in range, and they are well formed
  pub valid : M → Type 0
  -- the values that may be read back: a list has as many items as its bounds allow
  pub allowed : M → Type 0
  -- the type has bounds, so that some valid values may not be read back
  pub bounded : Type 0
  -- a write appends the encoding and nothing else
  pub plain : Type 0
  -- alternatives accept disjoint tags, and options occur only where they may
  pub lawful : Type 0
  -- each encoding is one element
  pub is_element : Type 0
  pub takes_memory : Type 0
  -- values are read, and not only written
  pub is_read : Type 0
  -- locations at which memory may run out
  pub runs_out : List ℕ → List Place → Type 0
  -- the tags that an element of the type may have
  pub accepts : Tag → Bool
  -- the value at the start of the octets and the remaining octets, or the first error
  pub read : List ℕ → Result (M × List ℕ) ReadError
  -- what a read leaves at an error
  pub stops : List ℕ → List ℕ → Type 0
  -- a simple type is one element with its tag and its contents octets
  pub is_simple : Type 0
  pub content : Content M

-- The encodings of a simple type: elements with its tag and its contents octets.
abbrev pub simple_encoding : {M : Type 0} → Content M → Encoding M
simple_encoding c = record {
  encoding = λ m. element_encoding (element c.tag (c.encoding m));
  encodings = λ m. IsElementOf c.tag (c.encodings m);
  closures = c.closures;
  valid = c.valid;
  allowed = c.allowed;
  bounded = c.bounded;
  plain = c.plain;
  lawful = c.lawful × (c.tag.value < 2 ^ 32);
  is_element = Unit {0};
  takes_memory = c.takes_memory;
  is_read = c.is_read;
  runs_out = simple_out c.tag c.runs_out;
  accepts = λ t. tag_eq t c.tag;
  read = simple c.tag c.read;
  stops = simple_stops;
  is_simple = Unit {0};
  content = c;
}

-- a content without parts
pub record Basic (M : Type 0) : Type 1 where
  pub tag : Tag
  pub encoding : M → List ℕ
  pub valid : M → Type 0
  pub read : List ℕ → Result M ReadError

-- The content without parts: it doesn't allocate, has no closures and no bounds.
abbrev pub basic : {M : Type 0} → Basic M → Content M
basic b = record {
  tag = b.tag;
  encoding = b.encoding;
  encodings = λ m t. t ≡ b.encoding m;
  closures = λ m. Unit {0};
  valid = b.valid;
  allowed = λ m. Unit {0};
  bounded = ⊥;
  plain = Unit {0};
  lawful = Unit {0};
  takes_memory = ⊥;
  is_read = Unit {0};
  runs_out = λ c places. ⊥;
  read = b.read;
}

-- No content: the type is not simple. A type that may be missing keeps the tag that it has if it is there.
abbrev pub no_content_but : {M : Type 0} → Tag → Content M
no_content_but tag = record {
  tag = tag;
  encoding = λ m. [];
  encodings = λ m t. ⊥;
  closures = λ m. Unit {0};
  valid = λ m. Unit {0};
  allowed = λ m. Unit {0};
  bounded = ⊥;
  plain = ⊥;
  lawful = ⊥;
  takes_memory = ⊥;
  is_read = ⊥;
  runs_out = λ c places. ⊥;
  read = rejects_all;
}

-- the same without a tag
abbrev pub no_content : {M : Type 0} → Content M
no_content = no_content_but (universal 0)

-- any element, as its tag and contents octets
abbrev pub tlv_encoding : Encoding Element
tlv_encoding = record {
  encoding = element_encoding;
  encodings = λ m t. t ≡ element_encoding m;
  closures = λ m. Unit {0};
  valid = λ m. m.tag.value < 2 ^ 32;
  allowed = λ m. Unit {0};
  bounded = ⊥;
  plain = Unit {0};
  lawful = Unit {0};
  is_element = Unit {0};
  takes_memory = ⊥;
  is_read = Unit {0};
  runs_out = λ t places. ⊥;
  accepts = λ t. true;
  read = framed_element;
  stops = tlv_stops;
  is_simple = ⊥;
  content = no_content;
}

-- a value of the type or nothing; the leading tag tells which
abbrev pub option_encoding : {M : Type 0} → Encoding M → Encoding (Option M)
option_encoding e = record {
  encoding = option_octets e.encoding;
  encodings = option_encodings e.encodings;
  closures = IfThere e.closures;
  valid = IfThere e.valid;
  allowed = IfThere e.allowed;
  bounded = e.bounded;
  plain = e.plain;
  lawful = e.lawful × e.is_element;
  is_element = ⊥;
  takes_memory = e.takes_memory;
  is_read = e.is_read;
  runs_out = option_out e.accepts e.runs_out;
  accepts = e.accepts;
  read = option_read e.accepts e.read;
  stops = e.stops;
  is_simple = ⊥;
  content = no_content_but e.content.tag;
}
