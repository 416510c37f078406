-- The laws of encodings, from those of their parts: of simple types by their contents, of any element, of options, and
-- of values that own memory. They are lemmas, which don't unfold, and say nothing of the values of a Rust type. So a
-- comparison of two types compares their data, and no proofs.
use Rattle.std.specs.Prelude.{ℕ, ◌<◌, ◌^◌, ◌≡◌, ◌⊎◌, List, [], ◌++◌, length, Result, Ok, IfErr, true, false, Option, Some, None}
use Rattle.std.proofs.Common.{inr, refl, sym, ap, ◌∙◌}
use Rattle.asn1_core.specs.declared.tag.Tag.{Tag}
use Rattle.asn1_core.specs.declared.parser.Place.{Place}
use Rattle.asn1_core.specs.Base256.{IsOctets}
use Rattle.asn1_core.specs.Tag.{tag_eq}
use Rattle.asn1_core.specs.Element.{Element, element, element_encoding, leading_element}
use Rattle.asn1_core.specs.ReadError.{ReadError, IsOfInput}
use Rattle.asn1_core.specs.Writing.{IsElementOf}
use Rattle.asn1_core.specs.Reading.{Returns, Consumes, Fits, IsOneElement, IsNothingOrElement, simple, simple_out, begins_accepted, rejects_all}
use Rattle.asn1_core.specs.Options.{IfThere, option_octets, option_read}
use Rattle.asn1_core.specs.Encoding.{Content, Basic, Encoding, simple_encoding, basic, no_content_but, tlv_encoding, option_encoding}
use Rattle.asn1_core.specs.EncodingLaws.{ContentLaws, BasicLaws, EncodingLaws}
use Rattle.asn1_core.specs.Boxed.{boxed, boxed_encoding}
use Rattle.asn1_core.specs.Lemmas.Options.{option_consumes, option_nothing_or_element, option_accepted, option_read_back, option_both, option_pair, option_weaker, option_one_encoding, option_has_encoding, option_at_most_one, option_all, option_errors}
use Rattle.asn1_core.specs.Lemmas.Elements.{element_encoding_not_nil}
use Rattle.asn1_core.specs.Lemmas.Results.{done_injective}
use Rattle.asn1_core.specs.Lemmas.Wholes.{Fits_short, IfErr_Returns, read_back_injective}
use Rattle.asn1_core.specs.Lemmas.Cuts.{element_encoding_cut, element_encoding_content_injective}
use Rattle.asn1_core.specs.Lemmas.Faults.{simple_errors, tlv_errors, rejects_all_errors}
use Rattle.asn1_core.specs.Lemmas.Contents.{simple_consumes, simple_nothing_or_element, simple_accepted, simple_read_back, element_one_encoding, tlv_consumes, tlv_read_back, rejects_all_consumes}

-- ---- simple types

module _ {M : Type 0} (c : Content M) (laws : ContentLaws c) where
  simple_type_one_encoding : c.plain → (m : M) (t : List ℕ) → IsElementOf c.tag (c.encodings m) t → t ≡ element_encoding (element c.tag (c.encoding m))
  simple_type_one_encoding p m = element_one_encoding c.tag (c.encodings m) (c.encoding m) (laws.one_encoding p m)

  simple_type_has_encoding : c.plain → (m : M) → c.valid m → IsElementOf c.tag (c.encodings m) (element_encoding (element c.tag (c.encoding m)))
  simple_type_has_encoding p m v = record { content = c.encoding m; is_content = laws.has_encoding p m v; is = refl }

  simple_type_at_most_one : (m : M) (t : List ℕ) → IsElementOf c.tag (c.encodings m) t → IsNothingOrElement t
  simple_type_at_most_one m t one = inr (element c.tag one.content, one.is)

  simple_type_consumes : (t rest : List ℕ) (m : M) → IsOctets t → simple c.tag c.read t ≡ Ok (m, rest) → Consumes t (element_encoding (element c.tag (c.encoding m))) rest × (c.valid m × c.allowed m)
  simple_type_consumes = simple_consumes c.tag c.encoding (λ m. c.valid m × c.allowed m) c.read laws.consumes

  simple_type_nothing_or_element : (m : M) → c.lawful × (c.tag.value < 2 ^ 32) → c.valid m → (element_encoding (element c.tag (c.encoding m)) ≡ []) ⊎ IsOneElement (element_encoding (element c.tag (c.encoding m)))
  simple_type_nothing_or_element m l v = simple_nothing_or_element c.tag (c.encoding m) l.1

  simple_type_accepted : (m : M) (e : Element) → c.valid m → element_encoding (element c.tag (c.encoding m)) ≡ element_encoding e → tag_eq e.tag c.tag ≡ true
  simple_type_accepted m e v same = simple_accepted c.tag (c.encoding m) e same

  simple_type_not_empty : (m : M) → c.lawful × (c.tag.value < 2 ^ 32) → Unit {0} → c.valid m → element_encoding (element c.tag (c.encoding m)) ≡ [] → ⊥
  simple_type_not_empty m l i v e = element_encoding_not_nil (element c.tag (c.encoding m)) e

  simple_type_read_back : (m : M) (rest : List ℕ) → c.lawful × (c.tag.value < 2 ^ 32) → c.valid m → c.allowed m → Fits (element_encoding (element c.tag (c.encoding m))) →
      (element_encoding (element c.tag (c.encoding m)) ≡ [] → begins_accepted (λ t. tag_eq t c.tag) rest ≡ false) → simple c.tag c.read (element_encoding (element c.tag (c.encoding m)) ++ rest) ≡ Ok (m, rest)
  simple_type_read_back m rest l v a fits none = simple_read_back c.tag c.encoding c.read m rest l.1 (laws.read_back m l.0 v a) fits

  simple_type_one_value : c.is_read → (m n : M) → c.lawful × (c.tag.value < 2 ^ 32) → c.valid m → c.valid n → element_encoding (element c.tag (c.encoding m)) ≡ element_encoding (element c.tag (c.encoding n)) → m ≡ n
  simple_type_one_value is m n l v w same = laws.one_value is m n l.0 v w (element_encoding_content_injective c.tag (c.encoding m) (c.encoding n) same)

  simple_type_short_fits : (m : M) → c.lawful × (c.tag.value < 2 ^ 32) → c.valid m → length (element_encoding (element c.tag (c.encoding m))) < 2 ^ 32 → Fits (element_encoding (element c.tag (c.encoding m)))
  simple_type_short_fits m l v = Fits_short (element_encoding (element c.tag (c.encoding m))) (simple_type_nothing_or_element m l v)

  simple_type_as_errors : {V : Type 0} (meaning : V → M) → (c.takes_memory → ⊥) → (t : List ℕ) (result : Result V ReadError) → Returns meaning (c.runs_out t) result (c.read t) → IfErr result IsOfInput
  simple_type_as_errors meaning none t result answers = IfErr_Returns meaning (c.runs_out t) result (c.read t) answers (laws.errors t) (λ places out. none (laws.memory t places out))

  simple_type_memory : (t : List ℕ) (places : List Place) → simple_out c.tag c.runs_out t places → c.takes_memory
  simple_type_memory t places out = laws.memory out.0.0.content places out.3

  simple_type_in_front : (t : List ℕ) (places : List Place) → simple_out c.tag c.runs_out t places → (f : Element × List ℕ) × (leading_element t ≡ Ok f)
  simple_type_in_front t places out = (out.0, out.1)

  simple_type_errors : (t : List ℕ) → IfErr (simple c.tag c.read t) IsOfInput
  simple_type_errors = simple_errors c.tag c.read laws.errors

pub simple_laws : {M : Type 0} {c : Content M} → ContentLaws c → EncodingLaws (simple_encoding c)
simple_laws {c = c} laws = record {
  one_encoding = simple_type_one_encoding c laws;
  has_encoding = simple_type_has_encoding c laws;
  at_most_one = simple_type_at_most_one c laws;
  no_closures = laws.no_closures;
  consumes = simple_type_consumes c laws;
  nothing_or_element = simple_type_nothing_or_element c laws;
  accepted = simple_type_accepted c laws;
  not_empty = simple_type_not_empty c laws;
  read_back = simple_type_read_back c laws;
  one_value = simple_type_one_value c laws;
  one_allowed = read_back_injective (simple_encoding c) (simple_type_read_back c laws);
  short_fits = simple_type_short_fits c laws;
  unbounded = laws.unbounded;
  memory = simple_type_memory c laws;
  begins_with_element = simple_type_in_front c laws;
  errors = simple_type_errors c laws;
  as_closures = λ m h. h;
  as_valid = λ m v. v;
  as_memory = λ some. some;
  as_bounded = λ some. some;
  as_errors = simple_type_as_errors c laws;
  as_plain = λ i p. p;
  as_is_read = λ i is. is;
  as_lawful = λ i l. l.0;
  as_encodings = λ i m. refl;
  as_accepts = λ i t. refl;
  as_read = λ i t. refl;
  as_out = λ i t places. (λ out. out, λ out. out);
  as_stops = λ i t rest. (λ h. h, λ h. h);
  of_content = laws;
}

-- ---- contents without parts, and no content

pub basic_laws : {M : Type 0} (b : Basic M) → BasicLaws b → ContentLaws (basic b)
basic_laws b laws = record {
  one_encoding = λ p m t e. e;
  has_encoding = λ p m v. refl;
  no_closures = λ p m. tt;
  is_written = λ p v. (v.0, refl);
  consumes = λ c m bytes e. let h = laws.consumes c m bytes e in (h.0, (h.1, tt));
  read_back = λ m l v a s. laws.read_back m v;
  one_value = λ is m n l v w same. done_injective m n (sym (laws.read_back m v) ∙ (ap b.read same ∙ laws.read_back n w));
  unbounded = λ free m v. tt;
  memory = λ c places out. out;
  errors = laws.errors;
}

pub no_content_laws : {M : Type 0} {tag : Tag} → ContentLaws (no_content_but {M = M} tag)
no_content_laws {M = M} = record {
  one_encoding = λ p. absurd p;
  has_encoding = λ p. absurd p;
  no_closures = λ p. absurd p;
  is_written = λ p. absurd p;
  consumes = λ c m b e. absurd (rejects_all_consumes c m e);
  read_back = λ m l. absurd l;
  one_value = λ is. absurd is;
  unbounded = λ free m v. tt;
  memory = λ c places out. out;
  errors = rejects_all_errors M;
}

-- A type that isn't simple rejects all contents octets.
pub no_content_errors : {V M : Type 0} (meaning : V → M) {P : Type 0} → P → (c : List ℕ) (result : Result V ReadError) → Returns meaning (λ places. ⊥) result (rejects_all c) → IfErr result IsOfInput
no_content_errors {M = M} meaning none c result answers = IfErr_Returns meaning (λ places. ⊥) result (rejects_all c) answers (rejects_all_errors M c) (λ places out. out)

-- ---- any element

pub tlv_laws : EncodingLaws tlv_encoding
tlv_laws = record {
  one_encoding = λ p m t e. e;
  has_encoding = λ p m v. refl;
  at_most_one = λ m t e. inr (m, e);
  no_closures = λ p m. tt;
  consumes = tlv_consumes;
  nothing_or_element = λ m l v. inr (record { element = m; is = refl; readable = v });
  accepted = λ m e v same. refl;
  not_empty = λ m l i v e. element_encoding_not_nil m e;
  read_back = λ m rest l v a fits none. tlv_read_back m rest v fits;
  one_value = λ is m n l v w same. (element_encoding_cut m n [] [] v w (ap (λ (t : List ℕ). t ++ []) same)).0;
  one_allowed = read_back_injective tlv_encoding (λ m rest l v a fits none. tlv_read_back m rest v fits);
  short_fits = λ m l v. Fits_short (element_encoding m) (inr (record { element = m; is = refl; readable = v }));
  unbounded = λ free m v. tt;
  memory = λ t places out. out;
  begins_with_element = λ t places out. absurd out;
  errors = tlv_errors;
  as_closures = λ m h. tt;
  as_valid = λ m v. tt;
  as_memory = λ some. absurd some;
  as_bounded = λ some. absurd some;
  as_errors = λ meaning. no_content_errors meaning;
  as_plain = λ i. absurd i;
  as_is_read = λ i. absurd i;
  as_lawful = λ i. absurd i;
  as_encodings = λ i. absurd i;
  as_accepts = λ i. absurd i;
  as_read = λ i. absurd i;
  as_out = λ i. absurd i;
  as_stops = λ i. absurd i;
  of_content = no_content_laws;
}

-- ---- options

module _ {M : Type 0} (e : Encoding M) (laws : EncodingLaws e) where
  option_type_read_back : (m : Option M) (rest : List ℕ) → e.lawful × e.is_element → IfThere e.valid m → IfThere e.allowed m → Fits (option_octets e.encoding m) → (option_octets e.encoding m ≡ [] → begins_accepted e.accepts rest ≡ false) →
      option_read e.accepts e.read (option_octets e.encoding m ++ rest) ≡ Ok (m, rest)
  option_type_read_back m rest l v a fits none = option_read_back e.accepts e.encoding (λ x. e.valid x × e.allowed x) e.read (λ x w. laws.nothing_or_element x l.0 w.0) (λ x f w. laws.accepted x f w.0) (λ x w none. laws.not_empty x l.0 l.1 w.0 none) (λ x r w o n. laws.read_back x r l.0 w.0 w.1 o n) m rest (option_pair e.valid e.allowed m v a) fits none

  option_type_one_value : e.is_read → (m n : Option M) → e.lawful × e.is_element → IfThere e.valid m → IfThere e.valid n → option_octets e.encoding m ≡ option_octets e.encoding n → m ≡ n
  option_type_one_value is None None l v w same = refl
  option_type_one_value is None (Some n) l v w same = absurd (laws.not_empty n l.0 l.1 w (sym same))
  option_type_one_value is (Some m) None l v w same = absurd (laws.not_empty m l.0 l.1 v same)
  option_type_one_value is (Some m) (Some n) l v w same = ap Some (laws.one_value is m n l.0 v w same)

pub option_laws : {M : Type 0} {e : Encoding M} → EncodingLaws e → EncodingLaws (option_encoding e)
option_laws {e = e} laws = record {
  one_encoding = λ p. option_one_encoding e.encoding e.encodings (laws.one_encoding p);
  has_encoding = λ p. option_has_encoding e.encoding e.encodings e.valid (laws.has_encoding p);
  at_most_one = option_at_most_one e.encodings laws.at_most_one;
  no_closures = λ p. option_all e.closures (laws.no_closures p);
  consumes = λ t rest o b is. let h = option_consumes e.accepts e.encoding (λ m. e.valid m × e.allowed m) e.read laws.consumes t rest o b is in (h.0, option_both e.valid e.allowed o h.1);
  nothing_or_element = λ m l v. option_nothing_or_element e.encoding e.valid (λ x w. laws.nothing_or_element x l.0 w) m v;
  accepted = λ m f v same. option_accepted e.accepts e.encoding e.valid laws.accepted m f v same;
  not_empty = λ m l i v none. i;
  read_back = option_type_read_back e laws;
  one_value = option_type_one_value e laws;
  one_allowed = read_back_injective (option_encoding e) (option_type_read_back e laws);
  short_fits = λ m l v. Fits_short (option_octets e.encoding m) (option_nothing_or_element e.encoding e.valid (λ x w. laws.nothing_or_element x l.0 w) m v);
  unbounded = λ free. option_weaker e.valid e.allowed (laws.unbounded free);
  memory = λ t places out. laws.memory t places out.1;
  begins_with_element = λ t places out. laws.begins_with_element t places out.1;
  errors = option_errors e.accepts e.read laws.errors;
  as_closures = λ m h. tt;
  as_valid = λ m v. tt;
  as_memory = λ some. absurd some;
  as_bounded = λ some. absurd some;
  as_errors = λ meaning. no_content_errors meaning;
  as_plain = λ i. absurd i;
  as_is_read = λ i. absurd i;
  as_lawful = λ i. absurd i;
  as_encodings = λ i. absurd i;
  as_accepts = λ i. absurd i;
  as_read = λ i. absurd i;
  as_out = λ i. absurd i;
  as_stops = λ i. absurd i;
  of_content = no_content_laws;
}

-- ---- values that own memory

pub boxed_content_laws : {M : Type 0} {c : Content M} → ContentLaws c → ContentLaws (boxed c)
boxed_content_laws laws = record {
  one_encoding = laws.one_encoding;
  has_encoding = laws.has_encoding;
  no_closures = laws.no_closures;
  is_written = laws.is_written;
  consumes = laws.consumes;
  read_back = laws.read_back;
  one_value = laws.one_value;
  unbounded = laws.unbounded;
  memory = λ x places out. tt;
  errors = laws.errors;
}

pub boxed_laws : {M : Type 0} {e : Encoding M} → EncodingLaws e → EncodingLaws (boxed_encoding e)
boxed_laws laws = record {
  one_encoding = laws.one_encoding;
  has_encoding = laws.has_encoding;
  at_most_one = laws.at_most_one;
  no_closures = laws.no_closures;
  consumes = laws.consumes;
  nothing_or_element = laws.nothing_or_element;
  accepted = laws.accepted;
  not_empty = laws.not_empty;
  read_back = laws.read_back;
  one_value = laws.one_value;
  one_allowed = laws.one_allowed;
  short_fits = laws.short_fits;
  unbounded = laws.unbounded;
  memory = λ t places out. tt;
  begins_with_element = λ t places out. (out.0, out.1);
  errors = laws.errors;
  as_closures = laws.as_closures;
  as_valid = laws.as_valid;
  as_memory = λ some. tt;
  as_bounded = laws.as_bounded;
  as_errors = λ meaning none. absurd (none tt);
  as_plain = laws.as_plain;
  as_is_read = laws.as_is_read;
  as_lawful = laws.as_lawful;
  as_encodings = laws.as_encodings;
  as_accepts = laws.as_accepts;
  as_read = laws.as_read;
  as_out = λ i t places. (λ out. out, λ out. out);
  as_stops = laws.as_stops;
  of_content = boxed_content_laws laws.of_content;
}
