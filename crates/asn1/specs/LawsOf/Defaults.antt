-- The laws of a field with a default, from those of its type.
use Rattle.std.specs.Prelude.{◌≡◌, ◌⊎◌, ℕ, false, List, [], ◌++◌, Ok}
use Rattle.asn1_core.specs.Reading.{Fits, IsOneElement, begins_accepted}
use Rattle.asn1_core.specs.Encoding.{Encoding}
use Rattle.asn1_core.specs.EncodingLaws.{EncodingLaws}
use Rattle.asn1_core.specs.LawsOf.Encodings.{no_content_laws, no_content_errors}
use Rattle.asn1_core.specs.Lemmas.Wholes.{Fits_short, read_back_injective}
use Rattle.asn1.specs.Defaults.{same_encoding, default_text, default_read}
use Rattle.asn1.specs.Defaulted.{IsDefaultOr, default_encoding}
use Rattle.asn1.specs.Lemmas.Defaults.{default_consumes, default_nothing_or_element, default_accepted, default_read_back, default_errors, default_one_encoding, default_has_encoding, default_at_most_one, default_both, default_weaker, default_one_value}

module _ {A : Type 0} (d : Encoding A) (default : A) (ld : EncodingLaws d) where
  default_type_nothing_or_element : (m : A) → d.lawful × d.is_element → IsDefaultOr d.encoding default d.valid m → (default_text d.encoding default m ≡ []) ⊎ IsOneElement (default_text d.encoding default m)
  default_type_nothing_or_element m l v = default_nothing_or_element d.encoding default d.accepts d.read d.valid (λ x w. ld.nothing_or_element x l.0 w) m v

  default_type_read_back : (m : A) (rest : List ℕ) → d.lawful × d.is_element → IsDefaultOr d.encoding default d.valid m → (m ≡ default) ⊎ d.allowed m → Fits (default_text d.encoding default m) →
      (default_text d.encoding default m ≡ [] → begins_accepted d.accepts rest ≡ false) → default_read d.accepts d.encoding d.read default (default_text d.encoding default m ++ rest) ≡ Ok (m, rest)
  default_type_read_back m rest l v a fits none = default_read_back d.encoding default d.accepts d.read d.valid d.allowed (λ x w. ld.nothing_or_element x l.0 w) ld.accepted (λ x w e. ld.not_empty x l.0 l.1 w e) (λ x r w b o n. ld.read_back x r l.0 w b o n) m rest v a fits none

  default_type_one_value : d.is_read → (m n : A) → d.lawful × d.is_element → IsDefaultOr d.encoding default d.valid m → IsDefaultOr d.encoding default d.valid n →
      default_text d.encoding default m ≡ default_text d.encoding default n → m ≡ n
  default_type_one_value is m n l = default_one_value d.encoding default d.valid (λ x. ld.not_empty x l.0 l.1) (λ x y. ld.one_value is x y l.0) m n

pub default_laws : {A : Type 0} {d : Encoding A} (default : A) → EncodingLaws d → EncodingLaws (default_encoding d default)
default_laws {d = d} default ld = record {
  one_encoding = λ p m. default_one_encoding (same_encoding d.encoding m default) (d.encoding m) (d.encodings m) (ld.one_encoding p m);
  has_encoding = λ p. default_has_encoding d.encoding default d.encodings d.valid (ld.has_encoding p);
  at_most_one = λ m. default_at_most_one (same_encoding d.encoding m default) (d.encodings m) (ld.at_most_one m);
  no_closures = ld.no_closures;
  consumes = λ t rest m is e.
      let got = default_consumes d.encoding default d.accepts d.read (λ x. d.valid x × d.allowed x) ld.consumes t rest m is e in
      (got.0, default_both default d.valid d.allowed (λ x. same_encoding d.encoding x default ≡ false) m got.1);
  nothing_or_element = default_type_nothing_or_element d default ld;
  accepted = default_accepted d.encoding default d.accepts d.read d.valid ld.accepted;
  not_empty = λ m l i v e. i;
  read_back = default_type_read_back d default ld;
  one_value = default_type_one_value d default ld;
  one_allowed = read_back_injective (default_encoding d default) (default_type_read_back d default ld);
  short_fits = λ m l v. Fits_short (default_text d.encoding default m) (default_type_nothing_or_element d default ld m l v);
  unbounded = λ free m v. default_weaker default d.valid d.allowed (λ x. same_encoding d.encoding x default ≡ false) (ld.unbounded free) m v;
  memory = λ t places out. ld.memory t places out.1;
  begins_with_element = λ t places out. ld.begins_with_element t places out.1;
  errors = default_errors d.encoding default d.accepts d.read ld.errors;
  as_closures = λ m h. tt;
  as_valid = λ m v. tt;
  as_memory = λ some. absurd some;
  as_bounded = λ some. absurd some;
  as_errors = λ meaning. no_content_errors meaning;
  as_plain = λ i. absurd i;
  as_is_read = λ i. absurd i;
  as_lawful = λ i. absurd i;
  as_encodings = λ i. absurd i;
  as_accepts = λ i. absurd i;
  as_read = λ i. absurd i;
  as_out = λ i. absurd i;
  as_stops = λ i. absurd i;
  of_content = no_content_laws;
}
