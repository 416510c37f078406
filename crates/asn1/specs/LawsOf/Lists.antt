-- The laws of lists and of sets, from those of their items.
use Rattle.std.specs.Prelude.{ℕ, ◌≡◌, ◌<◌, ◌≤◌, ◌^◌, ◌⊎◌, List, [], length, map, Ok, IfErr}
use Rattle.std.proofs.Common.{arith, inl, inr, refl}
use Rattle.asn1_core.specs.declared.parser.Place.{Place}
use Rattle.asn1_core.specs.Base256.{IsOctets}
use Rattle.asn1_core.specs.Tag.{tag_less}
use Rattle.asn1_core.specs.ReadError.{IsOfInput}
use Rattle.std.specs.List.{flat_map, AllByRecursion}
use Rattle.asn1_core.specs.Listing.{encoding_less, Joins, InOrder}
use Rattle.asn1_core.specs.Encoding.{Encoding, simple_encoding}
use Rattle.asn1_core.specs.EncodingLaws.{ContentLaws, EncodingLaws}
use Rattle.asn1_core.specs.LawsOf.Encodings.{simple_laws}
use Rattle.asn1_core.specs.Lemmas.Items.{AllByRecursion_both, AllByRecursion_pair, AllByRecursion_weaker, AllByRecursion_all, joins_one_encoding, joins_has_encoding}
use Rattle.asn1_core.specs.Lemmas.Options.{IsOneElement_not_empty}
use Rattle.asn1_core.specs.Lemmas.Sharing.{items_one_value}
use Rattle.asn1.specs.Lists.{IsInBounds, AreBounds, sequence_read, items_out}
use Rattle.asn1.specs.ListTypes.{items_inside}
use Rattle.asn1.specs.Sets.{set_read, set_out}
use Rattle.asn1.specs.SetTypes.{set_inside, set_content}
use Rattle.asn1.specs.Lemmas.ListItems.{sequence_consumes, sequence_read_back, items_memory, sequence_errors, length_le_flat_map, count_le_high, IsInBounds_unbounded}
use Rattle.asn1.specs.Lemmas.SetItems.{set_items_consumes, set_read_back, set_memory, set_octets_consumes, set_octets_read_back, set_errors, set_octets_errors}

module _ {A : Type 0} (d : Encoding A) (ld : EncodingLaws d) where
  items_of_one_value : d.is_read → (ms ns : List A) → d.lawful × d.is_element → AllByRecursion d.valid ms → AllByRecursion d.valid ns → flat_map d.encoding ms ≡ flat_map d.encoding ns → ms ≡ ns
  items_of_one_value is ms ns l = items_one_value d.encoding d.valid (λ m v. IsOneElement_not_empty (ld.nothing_or_element m l.0 v) (ld.not_empty m l.0 l.1 v)) (λ m n. ld.one_value is m n l.0) ms ns

module _ {A : Type 0} (low high : ℕ) (d : Encoding A) (ld : EncodingLaws d) where
  pub sequence_of_one_encoding : d.plain → (ms : List A) (t : List ℕ) → Joins d.encodings ms t → t ≡ flat_map d.encoding ms
  sequence_of_one_encoding p = joins_one_encoding d.encoding d.encodings (ld.one_encoding p)

  pub sequence_of_has_encoding : d.plain → (ms : List A) → AllByRecursion d.valid ms → Joins d.encodings ms (flat_map d.encoding ms)
  sequence_of_has_encoding p = joins_has_encoding d.encoding d.encodings d.valid (ld.has_encoding p)

  pub sequence_of_no_closures : d.plain → (ms : List A) → AllByRecursion d.closures ms
  sequence_of_no_closures p = AllByRecursion_all d.closures (ld.no_closures p)

  pub sequence_of_consumes : (c : List ℕ) (ms : List A) → IsOctets c → sequence_read d.read low high c ≡ Ok ms →
      (c ≡ flat_map d.encoding ms) × (AllByRecursion d.valid ms × (AllByRecursion d.allowed ms × IsInBounds low high (length ms)))
  sequence_of_consumes c ms b e =
      let h = sequence_consumes d.read d.encoding (λ m. d.valid m × d.allowed m) ld.consumes low high c ms b e in
      let each = AllByRecursion_both d.valid d.allowed ms h.1.0 in
      (h.0, (each.0, (each.1, (h.1.1, λ bound. h.1.2))))

  pub sequence_of_read_back : (ms : List A) → d.lawful × d.is_element → AllByRecursion d.valid ms → AllByRecursion d.allowed ms × IsInBounds low high (length ms) →
      length (flat_map d.encoding ms) < 2 ^ 32 → sequence_read d.read low high (flat_map d.encoding ms) ≡ Ok ms
  sequence_of_read_back ms l v a s =
      let few : length ms ≤ length (flat_map d.encoding ms) = length_le_flat_map d.encoding d.valid (λ m w. ld.not_empty m l.0 l.1 w) ms v in
      sequence_read_back d.accepts d.read d.encoding (λ m. d.valid m × d.allowed m) (λ m w. ld.nothing_or_element m l.0 w.0) (λ m w. ld.not_empty m l.0 l.1 w.0) (λ m r w o n. ld.read_back m r l.0 w.0 w.1 o n) low high ms (AllByRecursion_pair d.valid d.allowed ms v a.0) a.1.0 (count_le_high high (length ms) (omega arith) a.1.1) s

  pub sequence_of_unbounded : (AreBounds low high ⊎ d.bounded → ⊥) → (ms : List A) → AllByRecursion d.valid ms → AllByRecursion d.allowed ms × IsInBounds low high (length ms)
  sequence_of_unbounded free ms v = (AllByRecursion_weaker d.valid d.allowed (ld.unbounded (λ b. free (inr b))) ms v, IsInBounds_unbounded low high (length ms) (λ b. free (inl b)))

  pub sequence_of_memory : (c : List ℕ) (places : List Place) → items_out d.read d.runs_out (length c) 0 c places → d.takes_memory
  sequence_of_memory c places out = items_memory d.read d.runs_out d.takes_memory ld.memory (length c) 0 c places out

  pub sequence_of_errors : (c : List ℕ) → IfErr (sequence_read d.read low high c) IsOfInput
  sequence_of_errors = sequence_errors d.read ld.errors low high

pub items_inside_laws : {A : Type 0} (low high : ℕ) {d : Encoding A} → EncodingLaws d → ContentLaws (items_inside low high d)
items_inside_laws low high {d = d} ld = record {
  one_encoding = sequence_of_one_encoding low high d ld;
  has_encoding = sequence_of_has_encoding low high d ld;
  no_closures = sequence_of_no_closures low high d ld;
  is_written = λ p v. (v.0, sequence_of_has_encoding low high d ld p v.0 v.1);
  consumes = sequence_of_consumes low high d ld;
  read_back = sequence_of_read_back low high d ld;
  one_value = λ is ms ns l. items_of_one_value d ld is ms ns l;
  unbounded = sequence_of_unbounded low high d ld;
  memory = sequence_of_memory low high d ld;
  errors = sequence_of_errors low high d ld;
}

-- a list
pub list_laws : {A : Type 0} (low high : ℕ) {d : Encoding A} → EncodingLaws d → EncodingLaws (simple_encoding (items_inside low high d))
list_laws low high ld = simple_laws (items_inside_laws low high ld)

module _ {A : Type 0} (d : Encoding A) (ld : EncodingLaws d) where
  pub set_of_one_encoding : d.plain → (ms : List A) (t : List ℕ) → Joins d.encodings ms t → t ≡ flat_map d.encoding ms
  set_of_one_encoding p = joins_one_encoding d.encoding d.encodings (ld.one_encoding p)

  pub set_of_has_encoding : d.plain → (ms : List A) → AllByRecursion d.valid ms × InOrder encoding_less [] (map d.encoding ms) → Joins d.encodings ms (flat_map d.encoding ms)
  set_of_has_encoding p ms v = joins_has_encoding d.encoding d.encodings d.valid (ld.has_encoding p) ms v.0

  pub set_of_no_closures : d.plain → (ms : List A) → AllByRecursion d.closures ms
  set_of_no_closures p = AllByRecursion_all d.closures (ld.no_closures p)

  pub set_of_consumes : (c : List ℕ) (ms : List A) → IsOctets c → set_read encoding_less d.read c ≡ Ok ms →
      (c ≡ flat_map d.encoding ms) × ((AllByRecursion d.valid ms × InOrder encoding_less [] (map d.encoding ms)) × AllByRecursion d.allowed ms)
  set_of_consumes c ms b e =
      let h = set_items_consumes encoding_less d.read d.encoding (λ m. d.valid m × d.allowed m) ld.consumes [] (length c) 0 c ms b e in
      let each = AllByRecursion_both d.valid d.allowed ms h.1 in
      (h.0, ((each.0, h.2), each.1))

  pub set_of_read_back : (ms : List A) → d.lawful × d.is_element → AllByRecursion d.valid ms × InOrder encoding_less [] (map d.encoding ms) → AllByRecursion d.allowed ms →
      length (flat_map d.encoding ms) < 2 ^ 32 → set_read encoding_less d.read (flat_map d.encoding ms) ≡ Ok ms
  set_of_read_back ms l v a s = set_read_back encoding_less d.accepts d.read d.encoding (λ m. d.valid m × d.allowed m) (λ m w. ld.nothing_or_element m l.0 w.0) (λ m w. ld.not_empty m l.0 l.1 w.0) (λ m r w o n. ld.read_back m r l.0 w.0 w.1 o n) ms (AllByRecursion_pair d.valid d.allowed ms v.0 a) v.1 s

  pub set_of_memory : (c : List ℕ) (places : List Place) → set_out encoding_less d.read d.runs_out [] (length c) 0 c places → d.takes_memory
  set_of_memory c places out = set_memory encoding_less d.read d.runs_out d.takes_memory ld.memory [] (length c) 0 c places out

  pub set_of_errors : (c : List ℕ) → IfErr (set_read encoding_less d.read c) IsOfInput
  set_of_errors = set_errors encoding_less d.read ld.errors

pub set_inside_laws : {A : Type 0} {d : Encoding A} → EncodingLaws d → ContentLaws (set_inside d)
set_inside_laws {d = d} ld = record {
  one_encoding = set_of_one_encoding d ld;
  has_encoding = set_of_has_encoding d ld;
  no_closures = set_of_no_closures d ld;
  is_written = λ p v. (v.0, set_of_has_encoding d ld p v.0 v.1);
  consumes = set_of_consumes d ld;
  read_back = set_of_read_back d ld;
  one_value = λ is ms ns l v w. items_of_one_value d ld is ms ns l v.0 w.0;
  unbounded = λ free ms v. AllByRecursion_weaker d.valid d.allowed (ld.unbounded free) ms v.0;
  memory = set_of_memory d ld;
  errors = set_of_errors d ld;
}

-- a set of items
pub set_laws : {A : Type 0} {d : Encoding A} → EncodingLaws d → EncodingLaws (simple_encoding (set_inside d))
set_laws ld = simple_laws (set_inside_laws ld)

pub set_content_laws : ContentLaws set_content
set_content_laws = record {
  one_encoding = λ p m t e. e;
  has_encoding = λ p m v. refl;
  no_closures = λ p m. tt;
  is_written = λ p v. (v.0, refl);
  consumes = set_octets_consumes;
  read_back = λ m l v a s. set_octets_read_back m v s;
  one_value = λ is m n l v w same. same;
  unbounded = λ free c v. tt;
  memory = λ c places out. out;
  errors = set_octets_errors tag_less;
}
