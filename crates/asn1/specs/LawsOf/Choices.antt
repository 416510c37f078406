-- The laws of choices, from those of their alternatives.
use Rattle.std.specs.Prelude.{ℕ, ◌≡◌, List, [], ◌++◌, Ok, ◌⊎◌, Bool, false}
use Rattle.std.proofs.Common.{inl, inr, refl, sym, ap, ◌∙◌}
use Rattle.asn1_core.specs.declared.tag.Tag.{Tag}
use Rattle.asn1_core.specs.declared.parser.ParseErrorKind.TheVariants.{UnexpectedTag}
use Rattle.asn1_core.specs.Element.{Element, element_encoding}
use Rattle.asn1_core.specs.ReadError.{read_error, IsOfInput}
use Rattle.asn1_core.specs.Reading.{Fits, begins_accepted}
use Rattle.asn1_core.specs.Apart.{HasOneTagOutside, tags_of}
use Rattle.asn1_core.specs.Encoding.{Encoding}
use Rattle.asn1_core.specs.EncodingLaws.{EncodingLaws}
use Rattle.asn1_core.specs.LawsOf.Encodings.{no_content_laws, no_content_errors}
use Rattle.asn1_core.specs.Lemmas.Elements.{element_encoding_not_nil}
use Rattle.asn1_core.specs.Lemmas.Facts.{not_both}
use Rattle.asn1_core.specs.Lemmas.Options.{IsOneElement_not_empty}
use Rattle.asn1_core.specs.Lemmas.Wholes.{Fits_short, read_back_injective}
use Rattle.asn1.specs.Alternatives.{Disjoint, either, either_encoding, choice_read}
use Rattle.asn1.specs.Choices.{Alternatives, AlternativesLaws, only, or, none, choice_encoding}
use Rattle.asn1.specs.Lemmas.Apart.{one_tag_disjoint, others_disjoint}
use Rattle.asn1.specs.Lemmas.Choices.{only_consumes, only_read_back, only_errors, or_consumes, or_read_back, or_errors, or_nothing_or_element, or_accepted, or_one_encoding, or_has_encoding, or_at_most_one, or_both, or_pair, or_weaker, or_all, or_memory, choice_consumes, choice_read_back, choice_errors}

-- ---- tags that no other accepts, since a type has one

disjoint_by_tag : {A : Type 0} (d : Encoding A) (tags : Tag → Bool) → HasOneTagOutside tags (tags_of d) ⊎ Disjoint tags d.accepts → Disjoint tags d.accepts
disjoint_by_tag d tags (inl outside) tag is = others_disjoint tags (tags_of d) outside tag is
disjoint_by_tag d tags (inr apart) tag is = apart tag is

apart_either : {A : Type 0} (d : Encoding A) (others : Tag → Bool) {P : Type 0} → (P → Disjoint d.accepts others) → HasOneTagOutside others (tags_of d) ⊎ P → Disjoint d.accepts others
apart_either d others apart (inl outside) = one_tag_disjoint others (tags_of d) outside
apart_either d others apart (inr p) = apart p

-- ---- the laws

pub only_laws : {A : Type 0} {d : Encoding A} → EncodingLaws d → AlternativesLaws (only d)
only_laws {d = d} ld = record {
  one_encoding = ld.one_encoding;
  has_encoding = ld.has_encoding;
  at_most_one = ld.at_most_one;
  no_closures = ld.no_closures;
  consumes = only_consumes d.accepts d.encoding (λ m. d.valid m × d.allowed m) d.read ld.consumes;
  disjoint = λ tags. disjoint_by_tag d tags;
  lawful_if_apart = λ each. each;
  nothing_or_element = λ m l v. IsOneElement_not_empty (ld.nothing_or_element m l.0 v) (ld.not_empty m l.0 l.1 v);
  accepted = ld.accepted;
  read_back = λ m e l v a readable same. only_read_back d.accepts d.encoding (λ x. d.valid x × d.allowed x) d.read m e same readable (ld.accepted m e v same) (ld.read_back m [] l.0 v a);
  one_value = λ is m n l. ld.one_value is m n l.0;
  unbounded = ld.unbounded;
  memory = λ e places out. ld.memory (element_encoding e) places out.1;
  errors = only_errors d.accepts d.encoding (λ x. d.valid x × d.allowed x) d.read ld.errors;
}

module _ {A N : Type 0} {d : Encoding A} {c : Alternatives N} (ld : EncodingLaws d) (lc : AlternativesLaws c) where
  one_side : (x : A) (y : N) → d.lawful × d.is_element × c.lawful × Disjoint d.accepts c.accepts → d.valid x → c.valid y → d.encoding x ≡ c.encoding y → ⊥
  one_side x y l v w same =
      let one = IsOneElement_not_empty (ld.nothing_or_element x l.0 v) (ld.not_empty x l.0 l.1 v) in
      not_both (c.accepts one.element.tag) (lc.accepted y one.element w (sym same ∙ one.is)) (l.3 one.element.tag (ld.accepted x one.element v one.is))

  or_one_value : d.is_read × c.is_read → (m n : A ⊎ N) → d.lawful × d.is_element × c.lawful × Disjoint d.accepts c.accepts → either d.valid c.valid m → either d.valid c.valid n → either_encoding d.encoding c.encoding m ≡ either_encoding d.encoding c.encoding n → m ≡ n
  or_one_value is (inl x) (inl y) l v w same = ap inl (ld.one_value is.0 x y l.0 v w same)
  or_one_value is (inl x) (inr y) l v w same = absurd (one_side x y l v w same)
  or_one_value is (inr x) (inl y) l v w same = absurd (one_side y x l w v (sym same))
  or_one_value is (inr x) (inr y) l v w same = ap inr (lc.one_value is.1 x y l.2 v w same)

pub or_laws : {A N : Type 0} {d : Encoding A} {c : Alternatives N} → EncodingLaws d → AlternativesLaws c → AlternativesLaws (or d c)
or_laws {d = d} {c = c} ld lc = record {
  one_encoding = λ p. or_one_encoding d.encoding d.valid c.encoding c.valid d.encodings c.encodings (ld.one_encoding p.0) (lc.one_encoding p.1);
  has_encoding = λ p. or_has_encoding d.encoding d.valid c.encoding c.valid d.encodings c.encodings (ld.has_encoding p.0) (lc.has_encoding p.1);
  at_most_one = or_at_most_one d.encodings c.encodings ld.at_most_one lc.at_most_one;
  no_closures = λ p. or_all d.closures c.closures (ld.no_closures p.0) (lc.no_closures p.1);
  consumes = λ e m is h.
      let got = or_consumes d.accepts d.encoding (λ x. d.valid x × d.allowed x) d.read c.accepts c.encoding (λ x. c.valid x × c.allowed x) c.read ld.consumes lc.consumes e m is h in
      (got.0, or_both d.valid d.allowed c.valid c.allowed m got.1);
  disjoint = λ tags apart tag is. rw (disjoint_by_tag d tags apart.0 tag is, lc.disjoint tags apart.1 tag is) refl;
  lawful_if_apart = λ each. (each.first.lawful, each.first.is_element, lc.lawful_if_apart each.rest, apart_either d c.accepts (lc.disjoint d.accepts) each.first.tags);
  nothing_or_element = λ m l v. or_nothing_or_element d.encoding d.valid c.encoding c.valid (λ x w. IsOneElement_not_empty (ld.nothing_or_element x l.0 w) (ld.not_empty x l.0 l.1 w)) (λ x w. lc.nothing_or_element x l.2 w) m v;
  accepted = or_accepted d.encoding d.valid c.encoding c.valid d.accepts c.accepts ld.accepted lc.accepted;
  read_back = λ m e l v a readable same. or_read_back d.accepts d.encoding (λ x. d.valid x × d.allowed x) d.read c.accepts c.encoding (λ x. c.valid x × c.allowed x) c.read l.3 m e same readable (or_pair d.valid d.allowed c.valid c.allowed m v a)
      (λ x w. ld.accepted x e w.0) (λ x w. ld.read_back x [] l.0 w.0 w.1) (λ x w. lc.accepted x e w.0) (λ x w. lc.read_back x e l.2 w.0 w.1 readable);
  one_value = or_one_value ld lc;
  unbounded = λ free. or_weaker d.valid d.allowed c.valid c.allowed (ld.unbounded (λ b. free (inl b))) (lc.unbounded (λ b. free (inr b)));
  memory = or_memory d.accepts d.runs_out d.takes_memory c.runs_out c.takes_memory ld.memory lc.memory;
  errors = or_errors d.accepts d.encoding (λ x. d.valid x × d.allowed x) d.read c.read ld.errors lc.errors;
}

-- The error of a tag that no alternative accepts is one of the input.
none_errors : (e : Element) → IsOfInput (read_error (UnexpectedTag e.tag))
none_errors e h = cc

pub none_laws : AlternativesLaws none
none_laws = record {
  one_encoding = λ p m. absurd m;
  has_encoding = λ p m. absurd m;
  at_most_one = λ m. absurd m;
  no_closures = λ p m. tt;
  consumes = λ e m. absurd m;
  disjoint = λ tags apart tag is. refl;
  lawful_if_apart = λ each. each;
  nothing_or_element = λ m. absurd m;
  accepted = λ m. absurd m;
  read_back = λ m. absurd m;
  one_value = λ is m. absurd m;
  unbounded = λ free m. absurd m;
  memory = λ e places out. out;
  errors = none_errors;
}

module _ {M : Type 0} (c : Alternatives M) (lc : AlternativesLaws c) where
  choice_type_read_back : (m : M) (rest : List ℕ) → c.lawful → c.valid m → c.allowed m → Fits (c.encoding m) → (c.encoding m ≡ [] → begins_accepted c.accepts rest ≡ false) → choice_read c.read (c.encoding m ++ rest) ≡ Ok (m, rest)
  choice_type_read_back m rest l v a fits apart = let one = lc.nothing_or_element m l v in choice_read_back c.encoding c.read m rest one fits (λ readable. lc.read_back m one.element l v a readable one.is)

pub choice_laws : {M : Type 0} {c : Alternatives M} → AlternativesLaws c → EncodingLaws (choice_encoding c)
choice_laws {c = c} lc = record {
  one_encoding = lc.one_encoding;
  has_encoding = lc.has_encoding;
  at_most_one = lc.at_most_one;
  no_closures = lc.no_closures;
  consumes = choice_consumes c.encoding (λ x. c.valid x × c.allowed x) c.read lc.consumes;
  nothing_or_element = λ m l v. inr (lc.nothing_or_element m l v);
  accepted = lc.accepted;
  not_empty = λ m l i v e. let one = lc.nothing_or_element m l v in element_encoding_not_nil one.element (sym one.is ∙ e);
  read_back = choice_type_read_back c lc;
  one_value = lc.one_value;
  one_allowed = read_back_injective (choice_encoding c) (choice_type_read_back c lc);
  short_fits = λ m l v. Fits_short (c.encoding m) (inr (lc.nothing_or_element m l v));
  unbounded = lc.unbounded;
  memory = λ t places out. lc.memory out.0.0 places out.2;
  begins_with_element = λ t places out. (out.0, out.1);
  errors = choice_errors c.read lc.errors;
  as_closures = λ m h. tt;
  as_valid = λ m v. tt;
  as_memory = λ some. absurd some;
  as_bounded = λ some. absurd some;
  as_errors = λ meaning. no_content_errors meaning;
  as_plain = λ i. absurd i;
  as_is_read = λ i. absurd i;
  as_lawful = λ i. absurd i;
  as_encodings = λ i. absurd i;
  as_accepts = λ i. absurd i;
  as_read = λ i. absurd i;
  as_out = λ i. absurd i;
  as_stops = λ i. absurd i;
  of_content = no_content_laws;
}
