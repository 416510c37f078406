-- The laws of types that an item defines, from those of their parts.
use Rattle.std.specs.Prelude.{ℕ, ◌≡◌, List, [], true, false}
use Rattle.asn1_core.specs.Lemmas.Facts.{not_both}
use Rattle.asn1_core.specs.Lemmas.Cuts.{element_encoding_content_injective}
use Rattle.asn1.specs.Alternatives.{either, either_encoding}
use Rattle.asn1.specs.Lemmas.Fields.{same_pair}
use Rattle.std.proofs.Common.{refl, inl, inr, sym, ap, ◌∙◌, ◌⊎◌}
use Rattle.std.specs.Str.{bytes_eq}
use Rattle.std.proofs.lemmas.Bool.{and_parts}
use Rattle.std.proofs.lemmas.Slice.Eq.{bytes_eq-Decides}
use Rattle.asn1_core.specs.declared.tag.Tag.{Tag}
use Rattle.asn1_core.specs.Element.{element, element_encoding}
use Rattle.asn1_core.specs.Apart.{one_accepts}
use Rattle.asn1_core.specs.Encoding.{Encoding}
use Rattle.asn1_core.specs.EncodingLaws.{EncodingLaws}
use Rattle.asn1_core.specs.DefinedBy.{DefinedEncoding, DefinedLaws}
use Rattle.asn1_core.specs.Lemmas.Elements.{element_encoding_not_nil}
use Rattle.asn1_core.specs.Lemmas.Contents.{simple_consumes, simple_nothing_or_element, simple_accepted, simple_read_back, element_one_encoding}
use Rattle.asn1_core.specs.Lemmas.Options.{IsOneElement_not_empty}
use Rattle.asn1_core.specs.Lemmas.Faults.{simple_errors}
use Rattle.asn1.specs.DefinedReads.{Known, or_item, element_read}
use Rattle.asn1.specs.DefinedEncodings.{variant_encoding, or_variant_encoding, any_variant_encoding, inside_encoding}
use Rattle.asn1.specs.Lemmas.Apart.{one_side}
use Rattle.asn1.specs.Lemmas.Defined.{element_consumes, element_read_back, element_errors}
use Rattle.asn1.specs.Lemmas.Variants.{variant_consumes, variant_read_back, variant_accepted, variant_errors, variant_element_or_apart, or_variant_consumes, or_variant_element_or_apart, or_variant_read_back, or_variant_accepted, or_variant_nothing_or_element, or_variant_not_empty, or_variant_errors, or_variant_both, or_variant_pair, or_variant_memory, or_variant_leading_element, any_consumes, any_read_back, any_errors}
use Rattle.asn1.specs.Lemmas.Choices.{or_one_encoding, or_has_encoding, or_all, or_weaker}

pub bytes_eq_refl : (numbers : List ℕ) → bytes_eq numbers numbers ≡ true
bytes_eq_refl numbers = (bytes_eq-Decides numbers numbers).1 refl

pub bytes_eq_is : (numbers n : List ℕ) → bytes_eq n numbers ≡ true → numbers ≡ n
bytes_eq_is numbers n same = sym ((bytes_eq-Decides n numbers).0 same)

pub variant_laws : {I A : Type 0} (k : Known I) {d : Encoding A} → EncodingLaws d → DefinedLaws (variant_encoding k d)
variant_laws k {d = d} ld = record {
  one_encoding = ld.one_encoding;
  has_encoding = ld.has_encoding;
  no_closures = ld.no_closures;
  consumes = variant_consumes k d.encoding (λ m. d.valid m × d.allowed m) d.read ld.consumes;
  nothing_or_element = ld.nothing_or_element;
  accepted = λ m e v same. variant_accepted k d.accepts e.tag (ld.accepted m e v same);
  not_empty = ld.not_empty;
  told = λ starts is_told m v. variant_element_or_apart k d.accepts d.is_element starts is_told;
  of_variant = λ i tag is. rw (and_parts (k.is i) (d.accepts tag) is).1 refl;
  read_back = λ m rest l v a fits none. variant_read_back k d.accepts d.encoding d.read m rest (ld.read_back m rest l v a fits) none;
  one_value = λ is m n l v w items. ld.one_value is m n l v w;
  unbounded = ld.unbounded;
  memory = λ i t places out. ld.memory t places out.1;
  begins_with_element = λ i t places out. ld.begins_with_element t places out.1;
  errors = λ i. variant_errors (k.is i) d.read ld.errors;
}

module _ {I A N : Type 0} (k : Known I) {d : Encoding A} {others : DefinedEncoding I N} (ld : EncodingLaws d) (lo : DefinedLaws others) where
  or_variant_one_value : d.is_read × others.is_read → (m n : A ⊎ N) → d.lawful × others.lawful → either d.valid (λ x. others.valid x × (k.is (others.item x) ≡ false)) m → either d.valid (λ x. others.valid x × (k.is (others.item x) ≡ false)) n → or_item k.item others.item m ≡ or_item k.item others.item n →
      either_encoding d.encoding others.encoding m ≡ either_encoding d.encoding others.encoding n → m ≡ n
  or_variant_one_value is (inl x) (inl y) l v w items same = ap inl (ld.one_value is.0 x y l.0 v w same)
  or_variant_one_value is (inl x) (inr y) l v w items same = absurd (not_both (k.is k.item) k.itself (ap k.is items ∙ w.1))
  or_variant_one_value is (inr x) (inl y) l v w items same = absurd (not_both (k.is k.item) k.itself (ap k.is (sym items) ∙ v.1))
  or_variant_one_value is (inr x) (inr y) l v w items same = ap inr (lo.one_value is.1 x y l.1 v.0 w.0 items same)

pub or_variant_laws : {I A N : Type 0} (k : Known I) {d : Encoding A} {others : DefinedEncoding I N} → EncodingLaws d → DefinedLaws others → DefinedLaws (or_variant_encoding k d others)
or_variant_laws k {d = d} {others = others} ld lo = record {
  one_encoding = λ p. or_one_encoding d.encoding d.valid others.encoding others.valid d.encodings others.encodings (ld.one_encoding p.0) (lo.one_encoding p.1);
  has_encoding = λ p. or_has_encoding d.encoding d.valid others.encoding (λ n. others.valid n × (k.is (others.item n) ≡ false)) d.encodings others.encodings (ld.has_encoding p.0) (λ n v. lo.has_encoding p.1 n v.0);
  no_closures = λ p. or_all d.closures others.closures (ld.no_closures p.0) (lo.no_closures p.1);
  consumes = λ i t rest m is e.
      let got = or_variant_consumes k d.encoding others.encoding others.item (λ m. d.valid m × d.allowed m) (λ n. others.valid n × others.allowed n) d.read others.read ld.consumes lo.consumes i t rest m is e in
      (got.0, (got.1.0, or_variant_both d.valid d.allowed others.valid others.allowed (λ n. k.is (others.item n) ≡ false) m got.1.1));
  nothing_or_element = λ m l v. or_variant_nothing_or_element k d.encoding others.encoding others.item d.valid others.valid (λ x w. ld.nothing_or_element x l.0 w) (λ x w. lo.nothing_or_element x l.1 w) m v;
  accepted = or_variant_accepted k d.encoding others.encoding others.item d.accepts others.accepts d.valid others.valid ld.accepted lo.accepted;
  not_empty = λ m l i v e. or_variant_not_empty k d.encoding others.encoding others.item d.valid others.valid d.is_element others.is_element (λ x. ld.not_empty x l.0) (λ x. lo.not_empty x l.1) m i v e;
  of_variant = λ i tag. one_side (k.is i) (d.accepts tag) (others.accepts i tag) (one_accepts others.tags tag) (lo.of_variant i tag);
  told = λ starts is_told. or_variant_element_or_apart k others.item d.accepts others.accepts d.valid others.valid d.is_element others.is_element starts is_told.0 (lo.told starts is_told.1);
  read_back = λ m rest l v a fits none. or_variant_read_back k d.encoding others.encoding others.item d.accepts others.accepts (λ x. d.valid x × d.allowed x) (λ x. others.valid x × others.allowed x) d.read others.read rest
      (λ x w. ld.read_back x rest l.0 w.0 w.1) (λ x w. lo.read_back x rest l.1 w.0 w.1) m (or_variant_pair d.valid d.allowed others.valid others.allowed (λ n. k.is (others.item n) ≡ false) m v a) fits none;
  one_value = or_variant_one_value k ld lo;
  unbounded = λ free. or_weaker d.valid d.allowed (λ n. others.valid n × (k.is (others.item n) ≡ false)) others.allowed (ld.unbounded (λ b. free (inl b))) (λ n v. lo.unbounded (λ b. free (inr b)) n v.0);
  memory = λ i t places out. or_variant_memory (k.is i) (d.runs_out t places) d.takes_memory (others.runs_out i t places) others.takes_memory (ld.memory t places) (lo.memory i t places) out;
  begins_with_element = λ i t places out. or_variant_leading_element (k.is i) (d.runs_out t places) (others.runs_out i t places) t (ld.begins_with_element t places) (lo.begins_with_element i t places) out;
  errors = λ i. or_variant_errors (k.is i) d.read (others.read i) ld.errors (lo.errors i);
}

pub any_variant_laws : {I A : Type 0} {d : Encoding A} → EncodingLaws d → DefinedLaws (any_variant_encoding {I = I} d)
any_variant_laws {d = d} ld = record {
  one_encoding = λ p m. ld.one_encoding p m.1;
  has_encoding = λ p m. ld.has_encoding p m.1;
  no_closures = λ p m. ld.no_closures p m.1;
  consumes = any_consumes d.encoding d.read (λ m. d.valid m × d.allowed m) ld.consumes;
  nothing_or_element = λ m. ld.nothing_or_element m.1;
  accepted = λ m. ld.accepted m.1;
  not_empty = λ m. ld.not_empty m.1;
  told = λ starts is_told m v. is_told;
  of_variant = λ i tag is. rw is refl;
  read_back = λ m rest l v a fits none. any_read_back d.encoding d.read m rest (ld.read_back m.1 rest l v a fits none);
  one_value = λ is m n l v w items same. same_pair m n items (ld.one_value is m.1 n.1 l v w same);
  unbounded = λ free m. ld.unbounded free m.1;
  memory = λ i. ld.memory;
  begins_with_element = λ i. ld.begins_with_element;
  errors = λ i. any_errors d.encoding d.read i ld.errors;
}

pub defined_inside_laws : {I M : Type 0} (tag : Tag) {d : DefinedEncoding I M} → DefinedLaws d → DefinedLaws (inside_encoding tag d)
defined_inside_laws tag {d = d} ld = record {
  one_encoding = λ p m. element_one_encoding tag (d.encodings m) (d.encoding m) (ld.one_encoding p m);
  has_encoding = λ p m v. record { content = d.encoding m; is_content = ld.has_encoding p m v; is = refl };
  no_closures = ld.no_closures;
  consumes = λ i. simple_consumes tag d.encoding (λ m. (d.item m ≡ i) × (d.valid m × d.allowed m)) (element_read (d.read i)) (element_consumes d.encoding (d.read i) (λ m. (d.item m ≡ i) × (d.valid m × d.allowed m)) (ld.consumes i));
  nothing_or_element = λ m l v. simple_nothing_or_element tag (d.encoding m) l.2;
  accepted = λ m e v same. simple_accepted tag (d.encoding m) e same;
  not_empty = λ m l i v e. element_encoding_not_nil (element tag (d.encoding m)) e;
  told = λ starts is_told m v. inl tt;
  of_variant = λ i t is. rw is refl;
  read_back = λ m rest l v a fits none. simple_read_back tag d.encoding (element_read (d.read (d.item m))) m rest l.2
      (element_read_back d.encoding (d.read (d.item m)) (d.accepts (d.item m)) m (IsOneElement_not_empty (ld.nothing_or_element m l.0 v) (ld.not_empty m l.0 (l.1 (d.item m)) v)) (ld.read_back m [] l.0 v a)) fits;
  one_value = λ is m n l v w items same.
      ld.one_value is m n l.0 v w items (element_encoding_content_injective tag (d.encoding m) (d.encoding n) same);
  unbounded = ld.unbounded;
  memory = λ i t places out. ld.memory i (element_encoding out.3.0) places out.3.2;
  begins_with_element = λ i t places out. (out.0, out.1);
  errors = λ i. simple_errors tag (element_read (d.read i)) (element_errors d.encoding (d.read i) (ld.errors i));
}
