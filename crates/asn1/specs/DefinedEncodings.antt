-- The encodings of types that an item defines: a variant for each known item, or for any; under an explicit tag.
use Rattle.std.specs.Prelude.{ℕ, ◌≡◌, ◌<◌, ◌^◌, ◌⊎◌, ◌&&◌, if◌then◌else◌, true, false, List, [], ◌∷◌, Ok}
use Rattle.asn1_core.specs.declared.tag.Tag.{Tag}
use Rattle.asn1_core.specs.declared.parser.Place.{Place}
use Rattle.asn1_core.specs.Tag.{tag_eq}
use Rattle.asn1_core.specs.Element.{Element, element, element_encoding, ◌>>=◌}
use Rattle.asn1_core.specs.Writing.{IsElementOf}
use Rattle.asn1_core.specs.Reading.{simple, simple_out, simple_stops, framed_element, whole}
use Rattle.asn1_core.specs.Apart.{tags_of}
use Rattle.asn1_core.specs.Encoding.{Encoding}
use Rattle.asn1_core.specs.DefinedBy.{DefinedEncoding}
use Rattle.asn1.specs.Alternatives.{either, either_encoding}
use Rattle.asn1.specs.DefinedReads.{Known, variant_read, or_item, or_known, with_item, element_read}

-- One variant, for the known item.
abbrev pub variant_encoding : {I A : Type 0} → Known I → Encoding A → DefinedEncoding I A
variant_encoding k d = record {
  item = λ m. k.item;
  encoding = d.encoding;
  encodings = d.encodings;
  closures = d.closures;
  valid = d.valid;
  allowed = d.allowed;
  bounded = d.bounded;
  plain = d.plain;
  lawful = d.lawful;
  is_element = λ i. d.is_element;
  is_told = λ starts. d.is_element ⊎ ((tag : Tag) → starts tag → d.accepts tag ≡ false);
  tags = tags_of d ∷ [];
  takes_memory = d.takes_memory;
  is_read = d.is_read;
  runs_out = λ i t places. (k.is i ≡ true) × d.runs_out t places;
  accepts = λ i tag. k.is i && d.accepts tag;
  read = λ i. variant_read (k.is i) d.read;
  stops = λ i t rest. ((k.is i ≡ true) × d.stops t rest) ⊎ ((k.is i ≡ false) × (rest ≡ t));
}

-- One variant before others.
abbrev pub or_variant_encoding : {I A N : Type 0} → Known I → Encoding A → DefinedEncoding I N → DefinedEncoding I (A ⊎ N)
or_variant_encoding k d others = record {
  item = or_item k.item others.item;
  encoding = either_encoding d.encoding others.encoding;
  encodings = either d.encodings others.encodings;
  closures = either d.closures others.closures;
  valid = either d.valid (λ n. others.valid n × (k.is (others.item n) ≡ false));
  allowed = either d.allowed others.allowed;
  bounded = d.bounded ⊎ others.bounded;
  plain = d.plain × others.plain;
  lawful = d.lawful × others.lawful;
  is_element = λ i. (k.is i ≡ true → d.is_element) × (k.is i ≡ false → others.is_element i);
  is_told = λ starts. (d.is_element ⊎ ((tag : Tag) → starts tag → d.accepts tag ≡ false)) × others.is_told starts;
  tags = tags_of d ∷ others.tags;
  takes_memory = d.takes_memory ⊎ others.takes_memory;
  is_read = d.is_read × others.is_read;
  runs_out = λ i t places. ((k.is i ≡ true) × d.runs_out t places) ⊎ ((k.is i ≡ false) × others.runs_out i t places);
  accepts = λ i tag. if k.is i then d.accepts tag else others.accepts i tag;
  read = λ i. or_known (k.is i) d.read (others.read i);
  stops = λ i t rest. ((k.is i ≡ true) × d.stops t rest) ⊎ ((k.is i ≡ false) × others.stops i t rest);
}

-- One variant for any item, which keeps the item. After others by or_variant, it is for each item that they don't know.
abbrev pub any_variant_encoding : {I A : Type 0} → Encoding A → DefinedEncoding I (I × A)
any_variant_encoding d = record {
  item = λ m. m.0;
  encoding = λ m. d.encoding m.1;
  encodings = λ m. d.encodings m.1;
  closures = λ m. d.closures m.1;
  valid = λ m. d.valid m.1;
  allowed = λ m. d.allowed m.1;
  bounded = d.bounded;
  plain = d.plain;
  lawful = d.lawful;
  is_element = λ i. d.is_element;
  is_told = λ starts. d.is_element ⊎ ((tag : Tag) → starts tag → d.accepts tag ≡ false);
  tags = tags_of d ∷ [];
  takes_memory = d.takes_memory;
  is_read = d.is_read;
  runs_out = λ i. d.runs_out;
  accepts = λ i. d.accepts;
  read = λ i t. d.read t >>= with_item i;
  stops = λ i. d.stops;
}

-- Memory may run out for the value whose encoding is the one element in the contents octets.
abbrev pub element_out : (List ℕ → List Place → Type 0) → List ℕ → List Place → Type 0
element_out out c places = (e : Element) × (whole (framed_element c) ≡ Ok e) × out (element_encoding e) places

-- A value that an item defines, in an element with a tag of its own.
abbrev pub inside_encoding : {I M : Type 0} → Tag → DefinedEncoding I M → DefinedEncoding I M
inside_encoding {I} tag d = record {
  item = d.item;
  encoding = λ m. element_encoding (element tag (d.encoding m));
  encodings = λ m. IsElementOf tag (d.encodings m);
  closures = d.closures;
  valid = d.valid;
  allowed = d.allowed;
  bounded = d.bounded;
  plain = d.plain;
  lawful = d.lawful × ((i : I) → d.is_element i) × (tag.value < 2 ^ 32);
  is_element = λ i. Unit {0};
  is_told = λ starts. Unit {0};
  tags = record { accepts = λ t. tag_eq t tag; own = tag; is_element = Unit {0} } ∷ [];
  takes_memory = d.takes_memory;
  is_read = d.is_read;
  runs_out = λ i. simple_out tag (element_out (d.runs_out i));
  accepts = λ i t. tag_eq t tag;
  read = λ i. simple tag (element_read (d.read i));
  stops = λ i. simple_stops;
}
