-- What a type means in DER, for reading and writing: its values without their addresses in memory, their encodings,
-- what a read returns and a write appends, and last the laws of these.
use Rattle.std.specs.Prelude.{ℕ, ◌⊎◌, List, Result, Bool, Option}
use Rattle.asn1_core.specs.declared.tag.Tag.{Tag}
use Rattle.asn1_core.specs.declared.parser.Place.{Place}
use Rattle.asn1_core.specs.Element.{Element}
use Rattle.asn1_core.specs.ReadError.{ReadError}
use Rattle.asn1_core.specs.Options.{option_meaning}
use Rattle.asn1_core.specs.Encoding.{Content, Encoding, simple_encoding, tlv_encoding, option_encoding}
use Rattle.asn1_core.specs.EncodingLaws.{ContentLaws, EncodingLaws}
use Rattle.asn1_core.specs.LawsOf.Encodings.{simple_laws, tlv_laws, option_laws}

-- What a type means in DER, for reading and writing alike. An author states it for a type by the ghost member `der` of
-- `Asn1Type`. The data are those of `Encoding`. The laws are a field too, so that nobody states a type without a proof
-- of them.
pub record Der (V : Type 0) : Type 1 where
  -- a value without its address in memory
  pub Meaning : Type 0
  pub meaning : V → Meaning
  -- the encodings of abstract values, as `Encoding` says of each field
  pub encoding : Meaning → List ℕ
  pub encodings : Meaning → List ℕ → Type 0
  pub closures : Meaning → Type 0
  pub valid : Meaning → Type 0
  pub allowed : Meaning → Type 0
  pub bounded : Type 0
  pub plain : Type 0
  pub lawful : Type 0
  pub is_element : Type 0
  pub takes_memory : Type 0
  pub is_read : Type 0
  pub runs_out : List ℕ → List Place → Type 0
  pub accepts : Tag → Bool
  pub read : List ℕ → Result (Meaning × List ℕ) ReadError
  pub stops : List ℕ → List ℕ → Type 0
  pub is_simple : Type 0
  pub content : Content Meaning
  -- what holds of these
  pub laws : EncodingLaws (record { encoding = encoding; encodings = encodings; closures = closures; valid = valid; allowed = allowed; bounded = bounded; plain = plain; lawful = lawful; is_element = is_element; takes_memory = takes_memory; is_read = is_read; runs_out = runs_out; accepts = accepts; read = read; stops = stops; is_simple = is_simple; content = content })

-- The data alone.
abbrev pub encoding_of : {V : Type 0} → (d : Der V) → Encoding d.Meaning
encoding_of d = record {
  encoding = d.encoding;
  encodings = d.encodings;
  closures = d.closures;
  valid = d.valid;
  allowed = d.allowed;
  bounded = d.bounded;
  plain = d.plain;
  lawful = d.lawful;
  is_element = d.is_element;
  takes_memory = d.takes_memory;
  is_read = d.is_read;
  runs_out = d.runs_out;
  accepts = d.accepts;
  read = d.read;
  stops = d.stops;
  is_simple = d.is_simple;
  content = d.content;
}

-- What a type means whose values have these abstract values, with these encodings.
abbrev pub der_of : {V M : Type 0} → (V → M) → (e : Encoding M) → EncodingLaws e → Der V
der_of {M = M} meaning e laws = record {
  Meaning = M;
  meaning = meaning;
  encoding = e.encoding;
  encodings = e.encodings;
  closures = e.closures;
  valid = e.valid;
  allowed = e.allowed;
  bounded = e.bounded;
  plain = e.plain;
  lawful = e.lawful;
  is_element = e.is_element;
  takes_memory = e.takes_memory;
  is_read = e.is_read;
  runs_out = e.runs_out;
  accepts = e.accepts;
  read = e.read;
  stops = e.stops;
  is_simple = e.is_simple;
  content = e.content;
  laws = laws;
}

-- a simple type, by its content
abbrev pub simple_der : {V M : Type 0} → (V → M) → (c : Content M) → ContentLaws c → Der V
simple_der meaning c laws = der_of meaning (simple_encoding c) (simple_laws laws)

-- A type whose values are seen through something, for example a reference.
abbrev pub viewed : {V W : Type 0} → (W → V) → Der V → Der W
viewed view d = der_of (λ w. d.meaning (view w)) (encoding_of d) d.laws

-- any element, as its tag and contents octets
abbrev pub tlv_der : {V : Type 0} → (V → Element) → Der V
tlv_der view = der_of view tlv_encoding tlv_laws

-- a value of the type or nothing; the leading tag tells which
abbrev pub option_der : {V : Type 0} → Der V → Der (Option V)
option_der d = der_of (option_meaning d.meaning) (option_encoding (encoding_of d)) (option_laws d.laws)

-- The closures in a value are as a write requires them. A plain type has no closures.
abbrev pub IsWritable : {V : Type 0} → (d : Der V) → d.Meaning → Type 0
IsWritable d m = d.plain ⊎ d.closures m

-- The same for the content of a simple type.
abbrev pub IsWritableContent : {M : Type 0} → Content M → M → Type 0
IsWritableContent c m = c.plain ⊎ c.closures m
