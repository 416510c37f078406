-- The laws of fields, from those of their types. They are lemmas, which don't unfold, so that long rows stay cheap to
-- compare.
use Rattle.std.specs.Prelude.{ℕ, ◌≡◌, ◌<◌, ◌^◌, ◌⊎◌, List, [], ◌∷◌, ◌++◌, length, Ok, IfErr, Bool, true, false}
use Rattle.std.proofs.Common.{refl, inl, inr, sym, subst, ⊎_elim}
use Rattle.asn1_core.specs.declared.tag.Tag.{Tag}
use Rattle.asn1_core.specs.declared.parser.Place.{Place}
use Rattle.asn1_core.specs.Base256.{IsOctets}
use Rattle.asn1_core.specs.ReadError.{IsOfInput}
use Rattle.asn1_core.specs.Reading.{begins_accepted, rest_rejected}
use Rattle.asn1_core.specs.Apart.{IsFirst, one_accepts, Tags, tags_of}
use Rattle.asn1_core.specs.Listing.{set_tag}
use Rattle.asn1_core.specs.Tag.{tag_eq}
use Rattle.asn1_core.specs.Encoding.{Encoding, simple_encoding}
use Rattle.asn1_core.specs.EncodingLaws.{ContentLaws, EncodingLaws}
use Rattle.asn1_core.specs.LawsOf.Encodings.{simple_laws}
use Rattle.asn1_core.specs.DefinedBy.{DefinedEncoding, DefinedLaws}
use Rattle.asn1_core.specs.Lemmas.Options.{IsOneElement_not_empty}
use Rattle.asn1_core.specs.Lemmas.Wholes.{begins_accepted_nil}
use Rattle.asn1.specs.FieldReads.{Both, field_out, others_out, last_read, field_read, item_read, behind_out}
use Rattle.asn1.specs.Fields.{first_name, other_names, Fields, IsTold, LawfulFields, FieldsLaws, FieldsBy, FieldsByLaws, last, field, no_fields, value_last, value_field, between, with_item, sequence, AreInTagOrder, fields_if, set_fields, tagged_fields}
use Rattle.asn1.specs.Lemmas.Fields.{last_consumes, last_read_back, last_errors, field_consumes, field_read_back, field_faults_all, begins_accepted_last, begins_accepted_append, begins_accepted_nil_append, both_one_encoding, both_has_encoding, field_memory, item_consumes, item_read_back, item_errors, item_memory, begins_accepted_first_element, variants_then_variant, variants_then_others, row_one_value, item_one_value}
use Rattle.asn1.specs.Lemmas.Apart.{IsApartFromEach_disjoint, one_accepts_first, others_disjoint}

-- ---- what tells a type that may be missing

or_else : {P Q R : Type 0} → (Q → R) → P ⊎ Q → P ⊎ R
or_else implies (inl p) = inl p
or_else implies (inr q) = inr (implies q)

by_tags : (own : Tags) (others : List Tags) → IsTold own others → (tag : Tag) → IsFirst others tag → own.accepts tag ≡ false
by_tags own others told tag first = ⊎_elim (λ outside. others_disjoint (one_accepts others) own outside tag (one_accepts_first others tag first))
    (λ more. ⊎_elim (λ apart. IsApartFromEach_disjoint own others apart tag first) (λ said. said tag first) more) told.by

module _ {A : Type 0} (d : Encoding A) (ld : EncodingLaws d) where
  pub last_law_consumes : (names : List (List ℕ)) (c : List ℕ) (m : A) → IsOctets c → last_read (first_name names) d.read c ≡ Ok m → (c ≡ d.encoding m) × (d.valid m × d.allowed m)
  last_law_consumes names = last_consumes (first_name names) d.encoding d.read (λ m. d.valid m × d.allowed m) ld.consumes

  pub last_law_apart : (m : A) → d.lawful → d.valid m → (asked : Tag → Bool) → ((tag : Tag) → d.accepts tag ≡ true → asked tag ≡ false) → begins_accepted asked (d.encoding m) ≡ false
  last_law_apart m l v = begins_accepted_last d.accepts (d.encoding m) (λ tag. d.accepts tag ≡ true) (ld.nothing_or_element m l v) (λ e. ld.accepted m e v)

  pub last_law_read_back : (names : List (List ℕ)) (m : A) → d.lawful → d.valid m → d.allowed m → length (d.encoding m) < 2 ^ 32 → last_read (first_name names) d.read (d.encoding m) ≡ Ok m
  last_law_read_back names m l v a s = last_read_back (first_name names) d.encoding d.read d.accepts m (ld.nothing_or_element m l v) (ld.read_back m [] l v a) s

  pub last_law_memory : (names : List (List ℕ)) (c : List ℕ) (places : List Place) → field_out (first_name names) d.runs_out c places → d.takes_memory
  last_law_memory names c places out = ld.memory c out.0 out.1

  pub last_law_errors : (names : List (List ℕ)) (c : List ℕ) → IfErr (last_read (first_name names) d.read c) IsOfInput
  last_law_errors names = last_errors (first_name names) d.encoding d.read ld.errors

  module _ {N : Type 0} (others : Fields N) (lo : FieldsLaws others) where
    pub field_law_one_encoding : d.plain × others.plain → (m : A × N) (t : List ℕ) → Both (d.encodings m.0) (others.encodings m.1) t → t ≡ d.encoding m.0 ++ others.encoding m.1
    field_law_one_encoding p m = both_one_encoding (d.encoding m.0) (d.encodings m.0) (others.encoding m.1) (others.encodings m.1) (ld.one_encoding p.0 m.0) (lo.one_encoding p.1 m.1)

    pub field_law_consumes : (names : List (List ℕ)) (c : List ℕ) (m : A × N) → IsOctets c → field_read (first_name names) d.read (others.read (other_names names)) c ≡ Ok m →
        (c ≡ d.encoding m.0 ++ others.encoding m.1) × ((d.valid m.0 × others.valid m.1) × (d.allowed m.0 × others.allowed m.1))
    field_law_consumes names c m is h =
        let got = field_consumes (first_name names) d.encoding d.read others.encoding (others.read (other_names names)) (λ x. d.valid x × d.allowed x) (λ x. others.valid x × others.allowed x) ld.consumes (lo.consumes (other_names names)) c m is h in
        (got.0, ((got.1.0.0, got.1.1.0), (got.1.0.1, got.1.1.1)))

    pub field_law_apart : (m : A × N) → LawfulFields d.lawful (d.is_element ⊎ IsTold (tags_of d) others.tags) others.lawful → d.valid m.0 × others.valid m.1 → (asked : Tag → Bool) →
        ((tag : Tag) → (d.accepts tag ≡ true) ⊎ ((d.is_element → ⊥) × IsFirst others.tags tag) → asked tag ≡ false) → begins_accepted asked (d.encoding m.0 ++ others.encoding m.1) ≡ false
    field_law_apart m l v asked free = begins_accepted_append (d.encoding m.0) (others.encoding m.1) (λ tag. (d.accepts tag ≡ true) ⊎ ((d.is_element → ⊥) × IsFirst others.tags tag)) (IsFirst others.tags) (ld.nothing_or_element m.0 l.first v.0)
        (λ e same. inl (ld.accepted m.0 e v.0 same)) (λ none tag o. inr (λ i. ld.not_empty m.0 l.first i v.0 none, o)) asked free (lo.apart m.1 l.rest v.1 asked)

    pub field_law_read_back : (names : List (List ℕ)) (m : A × N) → LawfulFields d.lawful (d.is_element ⊎ IsTold (tags_of d) others.tags) others.lawful → d.valid m.0 × others.valid m.1 →
        d.allowed m.0 × others.allowed m.1 → length (d.encoding m.0 ++ others.encoding m.1) < 2 ^ 32 → field_read (first_name names) d.read (others.read (other_names names)) (d.encoding m.0 ++ others.encoding m.1) ≡ Ok m
    field_law_read_back names m l v a s = field_read_back (first_name names) d.encoding d.read others.encoding (others.read (other_names names)) d.accepts m (ld.nothing_or_element m.0 l.first v.0) (λ rest fits none. ld.read_back m.0 rest l.first v.0 a.0 fits none)
        (begins_accepted_nil_append (d.encoding m.0) d.accepts (others.encoding m.1) (λ i e. ld.not_empty m.0 l.first i v.0 e) (lo.apart m.1 l.rest v.1 d.accepts) (or_else (by_tags (tags_of d) others.tags) l.is_told)) (lo.read_back (other_names names) m.1 l.rest v.1 a.1) s

    field_free : (m : A × N) → LawfulFields d.lawful (d.is_element ⊎ IsTold (tags_of d) others.tags) others.lawful → d.valid m.0 × others.valid m.1 → d.encoding m.0 ≡ [] → begins_accepted d.accepts (others.encoding m.1) ≡ false
    field_free m l v = begins_accepted_nil_append (d.encoding m.0) d.accepts (others.encoding m.1) (λ i e. ld.not_empty m.0 l.first i v.0 e) (lo.apart m.1 l.rest v.1 d.accepts) (or_else (by_tags (tags_of d) others.tags) l.is_told)

    pub field_law_one_value : d.is_read × others.is_read → (m n : A × N) → LawfulFields d.lawful (d.is_element ⊎ IsTold (tags_of d) others.tags) others.lawful → d.valid m.0 × others.valid m.1 → d.valid n.0 × others.valid n.1 →
        d.encoding m.0 ++ others.encoding m.1 ≡ d.encoding n.0 ++ others.encoding n.1 → m ≡ n
    field_law_one_value is m n l v w = row_one_value m n d.accepts (d.encoding m.0) (d.encoding n.0) (others.encoding m.1) (others.encoding n.1) (ld.nothing_or_element m.0 l.first v.0) (ld.nothing_or_element n.0 l.first w.0)
        (λ e. ld.accepted m.0 e v.0) (λ e. ld.accepted n.0 e w.0) (field_free m l v) (field_free n l w) (ld.one_value is.0 m.0 n.0 l.first v.0 w.0) (lo.one_value is.1 m.1 n.1 l.rest v.1 w.1)

    pub field_law_unbounded : (d.bounded ⊎ others.bounded → ⊥) → (m : A × N) → d.valid m.0 × others.valid m.1 → d.allowed m.0 × others.allowed m.1
    field_law_unbounded free m v = (ld.unbounded (λ b. free (inl b)) m.0 v.0, lo.unbounded (λ b. free (inr b)) m.1 v.1)

    pub field_law_memory : (names : List (List ℕ)) (c : List ℕ) (places : List Place) → field_out (first_name names) d.runs_out c places ⊎ others_out d.read (others.runs_out (other_names names)) c places → d.takes_memory ⊎ others.takes_memory
    field_law_memory names = field_memory (first_name names) d.runs_out d.takes_memory ld.memory d.read (others.runs_out (other_names names)) others.takes_memory (lo.memory (other_names names))

    pub field_law_errors : (names : List (List ℕ)) (c : List ℕ) → IfErr (field_read (first_name names) d.read (others.read (other_names names)) c) IsOfInput
    field_law_errors names = field_faults_all (first_name names) d.encoding d.read others.encoding (others.read (other_names names)) ld.errors (lo.errors (other_names names))

pub last_laws : {A : Type 0} {d : Encoding A} → EncodingLaws d → FieldsLaws (last d)
last_laws {d = d} ld = record {
  one_encoding = ld.one_encoding;
  has_encoding = ld.has_encoding;
  no_closures = ld.no_closures;
  consumes = last_law_consumes d ld;
  apart = λ m l v asked free. last_law_apart d ld m l v asked (λ tag is. free tag (inl is));
  read_back = last_law_read_back d ld;
  one_value = ld.one_value;
  unbounded = ld.unbounded;
  memory = last_law_memory d ld;
  errors = last_law_errors d ld;
}

pub field_laws : {A N : Type 0} {d : Encoding A} {others : Fields N} → EncodingLaws d → FieldsLaws others → FieldsLaws (field d others)
field_laws {d = d} {others = others} ld lo = record {
  one_encoding = field_law_one_encoding d ld others lo;
  has_encoding = λ p m v. both_has_encoding (d.encoding m.0) (others.encoding m.1) (d.encodings m.0) (others.encodings m.1) (ld.has_encoding p.0 m.0 v.0) (lo.has_encoding p.1 m.1 v.1);
  no_closures = λ p m. (ld.no_closures p.0 m.0, lo.no_closures p.1 m.1);
  consumes = field_law_consumes d ld others lo;
  apart = field_law_apart d ld others lo;
  read_back = field_law_read_back d ld others lo;
  one_value = field_law_one_value d ld others lo;
  unbounded = field_law_unbounded d ld others lo;
  memory = field_law_memory d ld others lo;
  errors = field_law_errors d ld others lo;
}

-- ---- no fields

none_consumes : (c : List ℕ) (m : Unit {0}) → rest_rejected c ≡ Ok m → c ≡ []
none_consumes [] m e = refl
none_consumes (octet ∷ octets) m e = absurd cc

none_errors : (c : List ℕ) → IfErr (rest_rejected c) IsOfInput
none_errors [] = tt
none_errors (octet ∷ octets) = λ e. cc

no_law_consumes : (names : List (List ℕ)) (c : List ℕ) (m : Unit {0}) → IsOctets c → rest_rejected c ≡ Ok m → (c ≡ []) × (Unit {0} × Unit {0})
no_law_consumes names c m is h = (none_consumes c m h, (tt, tt))

no_law_errors : (names : List (List ℕ)) (c : List ℕ) → IfErr (rest_rejected c) IsOfInput
no_law_errors names c = none_errors c

pub no_fields_laws : FieldsLaws no_fields
no_fields_laws = record {
  one_encoding = λ p m t e. e;
  has_encoding = λ p m v. refl;
  no_closures = λ p m. tt;
  consumes = no_law_consumes;
  apart = λ m l v asked free. begins_accepted_nil asked;
  read_back = λ names m l v a s. refl;
  one_value = λ is m n l v w same. refl;
  unbounded = λ free m v. tt;
  memory = λ names c places out. out;
  errors = no_law_errors;
}

-- ---- a value that an item defines

module _ {I A : Type 0} (by : DefinedEncoding I A) (lby : DefinedLaws by) where
  pub value_last_law_consumes : (names : List (List ℕ)) (i : I) (c : List ℕ) (m : A) → IsOctets c → last_read (first_name names) (by.read i) c ≡ Ok m → (c ≡ by.encoding m) × ((by.item m ≡ i) × (by.valid m × by.allowed m))
  value_last_law_consumes names i = last_consumes (first_name names) by.encoding (by.read i) (λ m. (by.item m ≡ i) × (by.valid m × by.allowed m)) (lby.consumes i)

  pub value_last_law_apart : (m : A) → by.lawful → by.valid m → (asked : Tag → Bool) → ((tag : Tag) → by.accepts (by.item m) tag ≡ true → asked tag ≡ false) → begins_accepted asked (by.encoding m) ≡ false
  value_last_law_apart m l v = begins_accepted_last (by.accepts (by.item m)) (by.encoding m) (λ tag. by.accepts (by.item m) tag ≡ true) (lby.nothing_or_element m l v) (λ e. lby.accepted m e v)

  pub value_last_law_read_back : (names : List (List ℕ)) (m : A) → by.lawful → by.valid m → by.allowed m → length (by.encoding m) < 2 ^ 32 → last_read (first_name names) (by.read (by.item m)) (by.encoding m) ≡ Ok m
  value_last_law_read_back names m l v a s = last_read_back (first_name names) by.encoding (by.read (by.item m)) (by.accepts (by.item m)) m (lby.nothing_or_element m l v) (lby.read_back m [] l v a) s

  pub value_last_law_memory : (names : List (List ℕ)) (i : I) (c : List ℕ) (places : List Place) → field_out (first_name names) (by.runs_out i) c places → by.takes_memory
  value_last_law_memory names i c places out = lby.memory i c out.0 out.1

  pub value_last_law_errors : (names : List (List ℕ)) (i : I) (c : List ℕ) → IfErr (last_read (first_name names) (by.read i) c) IsOfInput
  value_last_law_errors names i = last_errors (first_name names) by.encoding (by.read i) (lby.errors i)

  module _ {N : Type 0} (others : Fields N) (lo : FieldsLaws others) where
    pub value_law_one_encoding : by.plain × others.plain → (m : A × N) (t : List ℕ) → Both (by.encodings m.0) (others.encodings m.1) t → t ≡ by.encoding m.0 ++ others.encoding m.1
    value_law_one_encoding p m = both_one_encoding (by.encoding m.0) (by.encodings m.0) (others.encoding m.1) (others.encodings m.1) (lby.one_encoding p.0 m.0) (lo.one_encoding p.1 m.1)

    pub value_law_consumes : (names : List (List ℕ)) (i : I) (c : List ℕ) (m : A × N) → IsOctets c → field_read (first_name names) (by.read i) (others.read (other_names names)) c ≡ Ok m →
        (c ≡ by.encoding m.0 ++ others.encoding m.1) × ((by.item m.0 ≡ i) × ((by.valid m.0 × others.valid m.1) × (by.allowed m.0 × others.allowed m.1)))
    value_law_consumes names i c m is h =
        let got = field_consumes (first_name names) by.encoding (by.read i) others.encoding (others.read (other_names names)) (λ x. (by.item x ≡ i) × (by.valid x × by.allowed x)) (λ x. others.valid x × others.allowed x) (lby.consumes i) (lo.consumes (other_names names)) c m is h in
        (got.0, (got.1.0.0, ((got.1.0.1.0, got.1.1.0), (got.1.0.1.1, got.1.1.1))))

    pub value_law_apart : (m : A × N) → by.lawful × others.lawful × by.is_told (IsFirst others.tags) → by.valid m.0 × others.valid m.1 → (asked : Tag → Bool) →
        ((tag : Tag) → (by.accepts (by.item m.0) tag ≡ true) ⊎ ((by.is_element (by.item m.0) → ⊥) × IsFirst others.tags tag) → asked tag ≡ false) → begins_accepted asked (by.encoding m.0 ++ others.encoding m.1) ≡ false
    value_law_apart m l v asked free = begins_accepted_append (by.encoding m.0) (others.encoding m.1) (λ tag. (by.accepts (by.item m.0) tag ≡ true) ⊎ ((by.is_element (by.item m.0) → ⊥) × IsFirst others.tags tag)) (IsFirst others.tags) (lby.nothing_or_element m.0 l.0 v.0)
        (λ e same. inl (lby.accepted m.0 e v.0 same)) (λ none tag o. inr (λ i. lby.not_empty m.0 l.0 i v.0 none, o)) asked free (lo.apart m.1 l.1 v.1 asked)

    pub value_law_read_back : (names : List (List ℕ)) (m : A × N) → by.lawful × others.lawful × by.is_told (IsFirst others.tags) → by.valid m.0 × others.valid m.1 →
        by.allowed m.0 × others.allowed m.1 → length (by.encoding m.0 ++ others.encoding m.1) < 2 ^ 32 → field_read (first_name names) (by.read (by.item m.0)) (others.read (other_names names)) (by.encoding m.0 ++ others.encoding m.1) ≡ Ok m
    value_law_read_back names m l v a s = field_read_back (first_name names) by.encoding (by.read (by.item m.0)) others.encoding (others.read (other_names names)) (by.accepts (by.item m.0)) m (lby.nothing_or_element m.0 l.0 v.0) (λ rest fits none. lby.read_back m.0 rest l.0 v.0 a.0 fits none)
        (begins_accepted_nil_append (by.encoding m.0) (by.accepts (by.item m.0)) (others.encoding m.1) (λ i e. lby.not_empty m.0 l.0 i v.0 e) (lo.apart m.1 l.1 v.1 (by.accepts (by.item m.0))) (lby.told (IsFirst others.tags) l.2 m.0 v.0)) (lo.read_back (other_names names) m.1 l.1 v.1 a.1) s

    value_free : (m : A × N) → by.lawful × others.lawful × by.is_told (IsFirst others.tags) → by.valid m.0 × others.valid m.1 → by.encoding m.0 ≡ [] → begins_accepted (by.accepts (by.item m.0)) (others.encoding m.1) ≡ false
    value_free m l v = begins_accepted_nil_append (by.encoding m.0) (by.accepts (by.item m.0)) (others.encoding m.1) (λ i e. lby.not_empty m.0 l.0 i v.0 e) (lo.apart m.1 l.1 v.1 (by.accepts (by.item m.0))) (lby.told (IsFirst others.tags) l.2 m.0 v.0)

    pub value_law_one_value : by.is_read × others.is_read → (m n : A × N) → by.lawful × others.lawful × by.is_told (IsFirst others.tags) → by.valid m.0 × others.valid m.1 → by.valid n.0 × others.valid n.1 → by.item m.0 ≡ by.item n.0 →
        by.encoding m.0 ++ others.encoding m.1 ≡ by.encoding n.0 ++ others.encoding n.1 → m ≡ n
    value_law_one_value is m n l v w items = row_one_value m n (by.accepts (by.item m.0)) (by.encoding m.0) (by.encoding n.0) (others.encoding m.1) (others.encoding n.1) (lby.nothing_or_element m.0 l.0 v.0) (lby.nothing_or_element n.0 l.0 w.0)
        (λ e. lby.accepted m.0 e v.0) (λ e same. subst (λ (i : I). by.accepts i e.tag ≡ true) (sym items) (lby.accepted n.0 e w.0 same)) (value_free m l v) (λ none. subst (λ (i : I). begins_accepted (by.accepts i) (others.encoding n.1) ≡ false) (sym items) (value_free n l w none))
        (lby.one_value is.0 m.0 n.0 l.0 v.0 w.0 items) (lo.one_value is.1 m.1 n.1 l.1 v.1 w.1)

    pub value_law_unbounded : (by.bounded ⊎ others.bounded → ⊥) → (m : A × N) → by.valid m.0 × others.valid m.1 → by.allowed m.0 × others.allowed m.1
    value_law_unbounded free m v = (lby.unbounded (λ b. free (inl b)) m.0 v.0, lo.unbounded (λ b. free (inr b)) m.1 v.1)

    pub value_law_memory : (names : List (List ℕ)) (i : I) (c : List ℕ) (places : List Place) → field_out (first_name names) (by.runs_out i) c places ⊎ others_out (by.read i) (others.runs_out (other_names names)) c places → by.takes_memory ⊎ others.takes_memory
    value_law_memory names i = field_memory (first_name names) (by.runs_out i) by.takes_memory (lby.memory i) (by.read i) (others.runs_out (other_names names)) others.takes_memory (lo.memory (other_names names))

    pub value_law_errors : (names : List (List ℕ)) (i : I) (c : List ℕ) → IfErr (field_read (first_name names) (by.read i) (others.read (other_names names)) c) IsOfInput
    value_law_errors names i = field_faults_all (first_name names) by.encoding (by.read i) others.encoding (others.read (other_names names)) (lby.errors i) (lo.errors (other_names names))

pub value_last_laws : {I A : Type 0} {by : DefinedEncoding I A} → DefinedLaws by → FieldsByLaws (value_last by)
value_last_laws {by = by} lby = record {
  one_encoding = lby.one_encoding;
  has_encoding = lby.has_encoding;
  no_closures = lby.no_closures;
  consumes = value_last_law_consumes by lby;
  apart = value_last_law_apart by lby;
  of_first = λ i tag start. variants_then_variant by.tags [] tag (lby.of_variant i tag start);
  read_back = value_last_law_read_back by lby;
  one_value = lby.one_value;
  unbounded = lby.unbounded;
  memory = value_last_law_memory by lby;
  errors = value_last_law_errors by lby;
}

pub value_field_laws : {I A N : Type 0} {by : DefinedEncoding I A} {others : Fields N} → DefinedLaws by → FieldsLaws others → FieldsByLaws (value_field by others)
value_field_laws {by = by} {others = others} lby lo = record {
  one_encoding = value_law_one_encoding by lby others lo;
  has_encoding = λ p m v. both_has_encoding (by.encoding m.0) (others.encoding m.1) (by.encodings m.0) (others.encodings m.1) (lby.has_encoding p.0 m.0 v.0) (lo.has_encoding p.1 m.1 v.1);
  no_closures = λ p m. (lby.no_closures p.0 m.0, lo.no_closures p.1 m.1);
  consumes = value_law_consumes by lby others lo;
  apart = value_law_apart by lby others lo;
  of_first = λ i tag start. ⊎_elim (λ is. variants_then_variant by.tags others.tags tag (lby.of_variant i tag is)) (λ behind. variants_then_others by.tags others.tags tag behind.1) start;
  read_back = value_law_read_back by lby others lo;
  one_value = value_law_one_value by lby others lo;
  unbounded = value_law_unbounded by lby others lo;
  memory = value_law_memory by lby others lo;
  errors = value_law_errors by lby others lo;
}

module _ {I A M : Type 0} (d : Encoding A) (behind : FieldsBy I M) (ld : EncodingLaws d) (lb : FieldsByLaws behind) where
  told_behind : IsTold (tags_of d) behind.tags ⊎ ((i : I) (tag : Tag) → behind.starts i tag → d.accepts tag ≡ false) → (i : I) (tag : Tag) → behind.starts i tag → d.accepts tag ≡ false
  told_behind told i tag start = ⊎_elim (λ by. by_tags (tags_of d) behind.tags by tag (lb.of_first i tag start)) (λ said. said i tag start) told

  pub between_law_one_encoding : d.plain × behind.plain → (m : A × M) (t : List ℕ) → Both (d.encodings m.0) (behind.encodings m.1) t → t ≡ d.encoding m.0 ++ behind.encoding m.1
  between_law_one_encoding p m = both_one_encoding (d.encoding m.0) (d.encodings m.0) (behind.encoding m.1) (behind.encodings m.1) (ld.one_encoding p.0 m.0) (lb.one_encoding p.1 m.1)

  pub between_law_consumes : (names : List (List ℕ)) (i : I) (c : List ℕ) (m : A × M) → IsOctets c → field_read (first_name names) d.read (behind.read (other_names names) i) c ≡ Ok m →
      (c ≡ d.encoding m.0 ++ behind.encoding m.1) × ((behind.item m.1 ≡ i) × ((d.valid m.0 × behind.valid m.1) × (d.allowed m.0 × behind.allowed m.1)))
  between_law_consumes names i c m is h =
      let got = field_consumes (first_name names) d.encoding d.read behind.encoding (behind.read (other_names names) i) (λ x. d.valid x × d.allowed x) (λ x. (behind.item x ≡ i) × (behind.valid x × behind.allowed x)) ld.consumes (lb.consumes (other_names names) i) c m is h in
      (got.0, (got.1.1.0, ((got.1.0.0, got.1.1.1.0), (got.1.0.1, got.1.1.1.1))))

  pub between_law_apart : (m : A × M) → LawfulFields d.lawful (d.is_element ⊎ (IsTold (tags_of d) behind.tags ⊎ ((i : I) (tag : Tag) → behind.starts i tag → d.accepts tag ≡ false))) behind.lawful → d.valid m.0 × behind.valid m.1 → (asked : Tag → Bool) →
      ((tag : Tag) → (d.accepts tag ≡ true) ⊎ ((d.is_element → ⊥) × behind.starts (behind.item m.1) tag) → asked tag ≡ false) → begins_accepted asked (d.encoding m.0 ++ behind.encoding m.1) ≡ false
  between_law_apart m l v asked free = begins_accepted_append (d.encoding m.0) (behind.encoding m.1) (λ tag. (d.accepts tag ≡ true) ⊎ ((d.is_element → ⊥) × behind.starts (behind.item m.1) tag)) (behind.starts (behind.item m.1)) (ld.nothing_or_element m.0 l.first v.0)
      (λ e same. inl (ld.accepted m.0 e v.0 same)) (λ none tag o. inr (λ i. ld.not_empty m.0 l.first i v.0 none, o)) asked free (lb.apart m.1 l.rest v.1 asked)

  pub between_law_read_back : (names : List (List ℕ)) (m : A × M) → LawfulFields d.lawful (d.is_element ⊎ (IsTold (tags_of d) behind.tags ⊎ ((i : I) (tag : Tag) → behind.starts i tag → d.accepts tag ≡ false))) behind.lawful → d.valid m.0 × behind.valid m.1 →
      d.allowed m.0 × behind.allowed m.1 → length (d.encoding m.0 ++ behind.encoding m.1) < 2 ^ 32 → field_read (first_name names) d.read (behind.read (other_names names) (behind.item m.1)) (d.encoding m.0 ++ behind.encoding m.1) ≡ Ok m
  between_law_read_back names m l v a s = field_read_back (first_name names) d.encoding d.read behind.encoding (behind.read (other_names names) (behind.item m.1)) d.accepts m (ld.nothing_or_element m.0 l.first v.0) (λ rest fits none. ld.read_back m.0 rest l.first v.0 a.0 fits none)
      (begins_accepted_nil_append (d.encoding m.0) d.accepts (behind.encoding m.1) (λ i e. ld.not_empty m.0 l.first i v.0 e) (lb.apart m.1 l.rest v.1 d.accepts) (or_else (λ told. told_behind told (behind.item m.1)) l.is_told)) (lb.read_back (other_names names) m.1 l.rest v.1 a.1) s

  between_free : (m : A × M) → LawfulFields d.lawful (d.is_element ⊎ (IsTold (tags_of d) behind.tags ⊎ ((i : I) (tag : Tag) → behind.starts i tag → d.accepts tag ≡ false))) behind.lawful → d.valid m.0 × behind.valid m.1 → d.encoding m.0 ≡ [] → begins_accepted d.accepts (behind.encoding m.1) ≡ false
  between_free m l v = begins_accepted_nil_append (d.encoding m.0) d.accepts (behind.encoding m.1) (λ i e. ld.not_empty m.0 l.first i v.0 e) (lb.apart m.1 l.rest v.1 d.accepts) (or_else (λ told. told_behind told (behind.item m.1)) l.is_told)

  pub between_law_one_value : d.is_read × behind.is_read → (m n : A × M) → LawfulFields d.lawful (d.is_element ⊎ (IsTold (tags_of d) behind.tags ⊎ ((i : I) (tag : Tag) → behind.starts i tag → d.accepts tag ≡ false))) behind.lawful → d.valid m.0 × behind.valid m.1 → d.valid n.0 × behind.valid n.1 → behind.item m.1 ≡ behind.item n.1 →
      d.encoding m.0 ++ behind.encoding m.1 ≡ d.encoding n.0 ++ behind.encoding n.1 → m ≡ n
  between_law_one_value is m n l v w items = row_one_value m n d.accepts (d.encoding m.0) (d.encoding n.0) (behind.encoding m.1) (behind.encoding n.1) (ld.nothing_or_element m.0 l.first v.0) (ld.nothing_or_element n.0 l.first w.0)
      (λ e. ld.accepted m.0 e v.0) (λ e. ld.accepted n.0 e w.0) (between_free m l v) (between_free n l w) (ld.one_value is.0 m.0 n.0 l.first v.0 w.0) (lb.one_value is.1 m.1 n.1 l.rest v.1 w.1 items)

  pub between_law_unbounded : (d.bounded ⊎ behind.bounded → ⊥) → (m : A × M) → d.valid m.0 × behind.valid m.1 → d.allowed m.0 × behind.allowed m.1
  between_law_unbounded free m v = (ld.unbounded (λ b. free (inl b)) m.0 v.0, lb.unbounded (λ b. free (inr b)) m.1 v.1)

  pub between_law_memory : (names : List (List ℕ)) (i : I) (c : List ℕ) (places : List Place) → field_out (first_name names) d.runs_out c places ⊎ others_out d.read (behind.runs_out (other_names names) i) c places → d.takes_memory ⊎ behind.takes_memory
  between_law_memory names i = field_memory (first_name names) d.runs_out d.takes_memory ld.memory d.read (behind.runs_out (other_names names) i) behind.takes_memory (lb.memory (other_names names) i)

  pub between_law_errors : (names : List (List ℕ)) (i : I) (c : List ℕ) → IfErr (field_read (first_name names) d.read (behind.read (other_names names) i) c) IsOfInput
  between_law_errors names i = field_faults_all (first_name names) d.encoding d.read behind.encoding (behind.read (other_names names) i) ld.errors (lb.errors (other_names names) i)

pub between_laws : {I A M : Type 0} {d : Encoding A} {behind : FieldsBy I M} → EncodingLaws d → FieldsByLaws behind → FieldsByLaws (between d behind)
between_laws {d = d} {behind = behind} ld lb = record {
  one_encoding = between_law_one_encoding d behind ld lb;
  has_encoding = λ p m v. both_has_encoding (d.encoding m.0) (behind.encoding m.1) (d.encodings m.0) (behind.encodings m.1) (ld.has_encoding p.0 m.0 v.0) (lb.has_encoding p.1 m.1 v.1);
  no_closures = λ p m. (ld.no_closures p.0 m.0, lb.no_closures p.1 m.1);
  consumes = between_law_consumes d behind ld lb;
  apart = between_law_apart d behind ld lb;
  of_first = λ i tag start. ⊎_elim (λ is. inl is) (λ rest. inr (rest.0, lb.of_first i tag rest.1)) start;
  read_back = between_law_read_back d behind ld lb;
  one_value = between_law_one_value d behind ld lb;
  unbounded = between_law_unbounded d behind ld lb;
  memory = between_law_memory d behind ld lb;
  errors = between_law_errors d behind ld lb;
}

module _ {A M : Type 0} (d : Encoding A) (behind : FieldsBy A M) (ld : EncodingLaws d) (lb : FieldsByLaws behind) where
  pub item_law_one_encoding : d.plain × behind.plain → (m : M) (t : List ℕ) → Both (d.encodings (behind.item m)) (behind.encodings m) t → t ≡ d.encoding (behind.item m) ++ behind.encoding m
  item_law_one_encoding p m = both_one_encoding (d.encoding (behind.item m)) (d.encodings (behind.item m)) (behind.encoding m) (behind.encodings m) (ld.one_encoding p.0 (behind.item m)) (lb.one_encoding p.1 m)

  pub item_law_consumes : (names : List (List ℕ)) (c : List ℕ) (m : M) → IsOctets c → item_read (first_name names) d.read (behind.read (other_names names)) c ≡ Ok m →
      (c ≡ d.encoding (behind.item m) ++ behind.encoding m) × ((d.valid (behind.item m) × behind.valid m) × (d.allowed (behind.item m) × behind.allowed m))
  item_law_consumes names c m is h =
      let got = item_consumes (first_name names) d.encoding d.read behind.item behind.encoding (behind.read (other_names names)) (λ x. d.valid x × d.allowed x) (λ x. behind.valid x × behind.allowed x) ld.consumes (lb.consumes (other_names names)) c m is h in
      (got.0, ((got.1.0.0, got.1.1.0), (got.1.0.1, got.1.1.1)))

  pub item_law_apart : (m : M) → d.lawful × d.is_element × behind.lawful → d.valid (behind.item m) × behind.valid m → (asked : Tag → Bool) → ((tag : Tag) → d.accepts tag ≡ true → asked tag ≡ false) →
      begins_accepted asked (d.encoding (behind.item m) ++ behind.encoding m) ≡ false
  item_law_apart m l v asked free =
      let one = IsOneElement_not_empty (ld.nothing_or_element (behind.item m) l.0 v.0) (ld.not_empty (behind.item m) l.0 l.1 v.0) in
      begins_accepted_first_element (d.encoding (behind.item m)) (behind.encoding m) (λ tag. d.accepts tag ≡ true) one (ld.accepted (behind.item m) one.element v.0 one.is) asked free

  pub item_law_read_back : (names : List (List ℕ)) (m : M) → d.lawful × d.is_element × behind.lawful → d.valid (behind.item m) × behind.valid m → d.allowed (behind.item m) × behind.allowed m →
      length (d.encoding (behind.item m) ++ behind.encoding m) < 2 ^ 32 → item_read (first_name names) d.read (behind.read (other_names names)) (d.encoding (behind.item m) ++ behind.encoding m) ≡ Ok m
  item_law_read_back names m l v a s = item_read_back (first_name names) d.encoding d.read behind.item behind.encoding (behind.read (other_names names)) d.accepts m (ld.nothing_or_element (behind.item m) l.0 v.0) (ld.not_empty (behind.item m) l.0 l.1 v.0)
      (λ rest fits none. ld.read_back (behind.item m) rest l.0 v.0 a.0 fits none) (lb.read_back (other_names names) m l.2 v.1 a.1) s

  pub item_law_one_value : d.is_read × behind.is_read → (m n : M) → d.lawful × d.is_element × behind.lawful → d.valid (behind.item m) × behind.valid m → d.valid (behind.item n) × behind.valid n →
      d.encoding (behind.item m) ++ behind.encoding m ≡ d.encoding (behind.item n) ++ behind.encoding n → m ≡ n
  item_law_one_value is m n l v w = item_one_value behind.item m n (d.encoding (behind.item m)) (d.encoding (behind.item n)) (behind.encoding m) (behind.encoding n) (IsOneElement_not_empty (ld.nothing_or_element (behind.item m) l.0 v.0) (ld.not_empty (behind.item m) l.0 l.1 v.0))
      (IsOneElement_not_empty (ld.nothing_or_element (behind.item n) l.0 w.0) (ld.not_empty (behind.item n) l.0 l.1 w.0)) (ld.one_value is.0 (behind.item m) (behind.item n) l.0 v.0 w.0) (lb.one_value is.1 m n l.2 v.1 w.1)

  pub item_law_unbounded : (d.bounded ⊎ behind.bounded → ⊥) → (m : M) → d.valid (behind.item m) × behind.valid m → d.allowed (behind.item m) × behind.allowed m
  item_law_unbounded free m v = (ld.unbounded (λ b. free (inl b)) (behind.item m) v.0, lb.unbounded (λ b. free (inr b)) m v.1)

  pub item_law_memory : (names : List (List ℕ)) (c : List ℕ) (places : List Place) → field_out (first_name names) d.runs_out c places ⊎ behind_out d.read (behind.runs_out (other_names names)) c places → d.takes_memory ⊎ behind.takes_memory
  item_law_memory names = item_memory (first_name names) d.runs_out d.takes_memory ld.memory d.read (behind.runs_out (other_names names)) behind.takes_memory (lb.memory (other_names names))

  pub item_law_errors : (names : List (List ℕ)) (c : List ℕ) → IfErr (item_read (first_name names) d.read (behind.read (other_names names)) c) IsOfInput
  item_law_errors names = item_errors (first_name names) d.encoding d.read behind.item behind.encoding (behind.read (other_names names)) ld.errors (lb.errors (other_names names))

pub with_item_laws : {A M : Type 0} {d : Encoding A} {behind : FieldsBy A M} → EncodingLaws d → FieldsByLaws behind → FieldsLaws (with_item d behind)
with_item_laws {d = d} {behind = behind} ld lb = record {
  one_encoding = item_law_one_encoding d behind ld lb;
  has_encoding = λ p m v. both_has_encoding (d.encoding (behind.item m)) (behind.encoding m) (d.encodings (behind.item m)) (behind.encodings m) (ld.has_encoding p.0 (behind.item m) v.0) (lb.has_encoding p.1 m v.1);
  no_closures = λ p m. (ld.no_closures p.0 (behind.item m), lb.no_closures p.1 m);
  consumes = item_law_consumes d behind ld lb;
  apart = λ m l v asked free. item_law_apart d behind ld lb m l v asked (λ tag is. free tag (inl is));
  read_back = item_law_read_back d behind ld lb;
  one_value = item_law_one_value d behind ld lb;
  unbounded = item_law_unbounded d behind ld lb;
  memory = item_law_memory d behind ld lb;
  errors = item_law_errors d behind ld lb;
}

-- ---- structures

pub sequence_laws : {M : Type 0} {fields : Fields M} (names : List (List ℕ)) → FieldsLaws fields → ContentLaws (sequence fields names)
sequence_laws names lf = record {
  one_encoding = lf.one_encoding;
  has_encoding = lf.has_encoding;
  no_closures = lf.no_closures;
  is_written = λ p v. (v.0, lf.has_encoding p v.0 v.1);
  consumes = lf.consumes names;
  read_back = lf.read_back names;
  one_value = lf.one_value;
  unbounded = lf.unbounded;
  memory = lf.memory names;
  errors = lf.errors names;
}

pub structure_laws : {M : Type 0} {fields : Fields M} (names : List (List ℕ)) → FieldsLaws fields → EncodingLaws (simple_encoding (sequence fields names))
structure_laws names lf = simple_laws (sequence_laws names lf)

fields_if_laws : {M : Type 0} (condition : Type 0) (tag : Tag) {fields : Fields M} (names : List (List ℕ)) → FieldsLaws fields → ContentLaws (fields_if condition tag fields names)
fields_if_laws condition tag names lf = record {
  one_encoding = lf.one_encoding;
  has_encoding = lf.has_encoding;
  no_closures = lf.no_closures;
  is_written = λ p v. (v.0, lf.has_encoding p v.0 v.1);
  consumes = lf.consumes names;
  read_back = λ m l. lf.read_back names m l.0;
  one_value = λ is m n l. lf.one_value is m n l.0;
  unbounded = lf.unbounded;
  memory = lf.memory names;
  errors = lf.errors names;
}

pub set_structure_laws : {M : Type 0} (tag : Tag) {fields : Fields M} (names : List (List ℕ)) → FieldsLaws fields → EncodingLaws (simple_encoding (set_fields tag fields names))
set_structure_laws tag {fields = fields} names lf = simple_laws (fields_if_laws (AreInTagOrder fields.all_tags) tag names lf)

pub structure_with_tag_laws : {M : Type 0} (tag : Tag) {fields : Fields M} (names : List (List ℕ)) → FieldsLaws fields → EncodingLaws (simple_encoding (tagged_fields tag fields names))
structure_with_tag_laws tag names lf = simple_laws (fields_if_laws (tag_eq tag set_tag ≡ false) tag names lf)
