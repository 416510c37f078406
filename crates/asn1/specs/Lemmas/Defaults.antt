-- The laws of values that are left out if they equal a default, from the laws of the type.
use Rattle.std.proofs.Common.{◌≡◌, ℕ, Bool, true, false, if◌then◌else◌, List, [], ◌++◌, Option, Some, None, Result, Ok, Err, IfErr, refl, sym, ap, subst, ◌∙◌, ◌⊎◌, inl, inr}
use Rattle.std.proofs.lemmas.Slice.Eq.{bytes_eq-Decides}
use Rattle.asn1_core.specs.declared.tag.Tag.{Tag}
use Rattle.asn1_core.specs.declared.parser.ParseErrorKind.TheVariants.{EncodedDefault}
use Rattle.asn1_core.specs.Base256.{IsOctets}
use Rattle.asn1_core.specs.Element.{Element, element_encoding, ◌>>=◌}
use Rattle.asn1_core.specs.ReadError.{ReadError, read_error, IsOfInput}
use Rattle.asn1_core.specs.Reading.{Consumes, Fits, IsOneElement, IsNothingOrElement, begins_accepted}
use Rattle.asn1_core.specs.Options.{option_read}
use Rattle.asn1_core.specs.Lemmas.Elements.{element_encoding_not_nil}
use Rattle.asn1_core.specs.Lemmas.Results.{done_injective, bind_ok}
use Rattle.asn1_core.specs.Lemmas.Options.{option_consumes, IsOneElement_not_empty, option_errors}
use Rattle.asn1_core.specs.Lemmas.Wholes.{begins_accepted_element}
use Rattle.asn1_core.specs.Lemmas.Faults.{bind_errors, missed_errors}
use Rattle.asn1.specs.Defaults.{same_encoding, unless, unless_default_encoding, read_default, default_text, default_read}
use Rattle.asn1_core.specs.Lemmas.Facts.{not_both}

-- a value has the same encoding as itself
pub same_encoding_refl : {M : Type 0} (encoding : M → List ℕ) (m : M) → same_encoding encoding m m ≡ true
same_encoding_refl encoding m = (bytes_eq-Decides (encoding m) (encoding m)).1 refl

abbrev gave : {M : Type 0} → List ℕ → M → Result (M × List ℕ) ReadError
gave rest m = Ok (m, rest)

some_is : {M : Type 0} (b : Bool) (v m : M) (rest1 rest : List ℕ) → ((if b then Err (read_error EncodedDefault) else Ok v) >>= gave rest1) ≡ Ok (m, rest) → (b ≡ false) × (◌≡◌ {A = M × List ℕ} (v, rest1) (m, rest))
some_is true v m rest1 rest e = absurd cc
some_is false v m rest1 rest e = (refl, done_injective _ _ e)

module _ {M : Type 0} (encoding : M → List ℕ) (default : M) where
  -- the default is encoded as nothing, and another value as in its type
  pub default_text_default : (m : M) → m ≡ default → default_text encoding default m ≡ []
  default_text_default m e = rw (ap (λ (x : M). same_encoding encoding x default) e, same_encoding_refl encoding default) refl

  pub default_text_other : (m : M) → same_encoding encoding m default ≡ false → default_text encoding default m ≡ encoding m
  default_text_other m other = rw other refl

  module _ (accepts : Tag → Bool) (read : List ℕ → Result (M × List ℕ) ReadError) (valid : M → Type 0) where
    takes_by : ((t rest : List ℕ) (m : M) → IsOctets t → read t ≡ Ok (m, rest) → Consumes t (encoding m) rest × valid m) →
        (t rest rest1 : List ℕ) (m : M) (o : Option M) → IsOctets t → option_read accepts read t ≡ Ok (o, rest1) → (read_default (same_encoding encoding) o default >>= gave rest1) ≡ Ok (m, rest) →
        Consumes t (default_text encoding default m) rest × ((m ≡ default) ⊎ (valid m × (same_encoding encoding m default ≡ false)))
    takes_by law t rest rest1 m None is r e =
        let P : M × List ℕ → Type 0 = λ x. Consumes t (default_text encoding default x.0) x.1 × ((x.0 ≡ default) ⊎ (valid x.0 × (same_encoding encoding x.0 default ≡ false))) in
        let got = option_consumes accepts encoding valid read law t rest1 None is r in
        subst P (done_injective _ _ e) (subst (λ (s : List ℕ). Consumes t s rest1) (sym (default_text_default default refl)) got.0, inl refl)
    takes_by law t rest rest1 m (Some v) is r e =
        let P : M × List ℕ → Type 0 = λ x. Consumes t (default_text encoding default x.0) x.1 × ((x.0 ≡ default) ⊎ (valid x.0 × (same_encoding encoding x.0 default ≡ false))) in
        let got = option_consumes accepts encoding valid read law t rest1 (Some v) is r in
        let s = some_is (same_encoding encoding v default) v m rest1 rest e in
        subst P s.1 (subst (λ (s : List ℕ). Consumes t s rest1) (sym (default_text_other v s.0)) got.0, inr (got.1, s.0))

    pub default_consumes : ((t rest : List ℕ) (m : M) → IsOctets t → read t ≡ Ok (m, rest) → Consumes t (encoding m) rest × valid m) →
        (t rest : List ℕ) (m : M) → IsOctets t → default_read accepts encoding read default t ≡ Ok (m, rest) →
        Consumes t (default_text encoding default m) rest × ((m ≡ default) ⊎ (valid m × (same_encoding encoding m default ≡ false)))
    default_consumes law t rest m is e =
        let p = bind_ok (option_read accepts read t) (λ x. read_default (same_encoding encoding) x.0 default >>= gave x.1) (m, rest) e in
        takes_by law t rest p.0.1 m p.0.0 is p.1 p.2

    pub default_nothing_or_element : ((m : M) → valid m → (encoding m ≡ []) ⊎ IsOneElement (encoding m)) →
        (m : M) → (m ≡ default) ⊎ (valid m × (same_encoding encoding m default ≡ false)) → (default_text encoding default m ≡ []) ⊎ IsOneElement (default_text encoding default m)
    default_nothing_or_element law m (inl e) = inl (default_text_default m e)
    default_nothing_or_element law m (inr v) = subst (λ (s : List ℕ). (s ≡ []) ⊎ IsOneElement s) (sym (default_text_other m v.1)) (law m v.0)

    pub default_accepted : ((m : M) (e : Element) → valid m → encoding m ≡ element_encoding e → accepts e.tag ≡ true) →
        (m : M) (e : Element) → (m ≡ default) ⊎ (valid m × (same_encoding encoding m default ≡ false)) → default_text encoding default m ≡ element_encoding e → accepts e.tag ≡ true
    default_accepted law m e (inl is) same = absurd (element_encoding_not_nil e (sym same ∙ default_text_default m is))
    default_accepted law m e (inr v) same = law m e v.0 (sym (default_text_other m v.1) ∙ same)

    pub default_read_back : (allowed : M → Type 0) → ((m : M) → valid m → (encoding m ≡ []) ⊎ IsOneElement (encoding m)) →
        ((m : M) (e : Element) → valid m → encoding m ≡ element_encoding e → accepts e.tag ≡ true) →
        ((m : M) → valid m → encoding m ≡ [] → ⊥) →
        ((m : M) (rest : List ℕ) → valid m → allowed m → Fits (encoding m) → (encoding m ≡ [] → begins_accepted accepts rest ≡ false) → read (encoding m ++ rest) ≡ Ok (m, rest)) →
        (m : M) (rest : List ℕ) → (m ≡ default) ⊎ (valid m × (same_encoding encoding m default ≡ false)) → (m ≡ default) ⊎ allowed m → Fits (default_text encoding default m) →
        (default_text encoding default m ≡ [] → begins_accepted accepts rest ≡ false) → default_read accepts encoding read default (default_text encoding default m ++ rest) ≡ Ok (m, rest)
    default_read_back allowed shape accepted solid again m rest (inl e) a one none =
        let nothing = default_text_default m e in
        rw (nothing, none nothing, e) refl
    default_read_back allowed shape accepted solid again m rest (inr v) (inl e) one none = not_both (same_encoding encoding m default) (ap (λ (x : M). same_encoding encoding x default) e ∙ same_encoding_refl encoding default) v.1
    default_read_back allowed shape accepted solid again m rest (inr v) (inr a) one none =
        let own = default_text_other m v.1 in
        let e = IsOneElement_not_empty (shape m v.0) (solid m v.0) in
        let here = begins_accepted_element accepts (encoding m) rest e (accepted m e.element v.0 e.is) in
        let back = again m rest v.0 a (subst Fits own one) (λ n. absurd (solid m v.0 n)) in
        rw (own, here, back, v.1) refl

value_errors : {M : Type 0} (encoding : M → List ℕ) (default : M) (o : Option M) → IfErr (read_default (same_encoding encoding) o default) IsOfInput
value_errors encoding default None = tt
value_errors encoding default (Some v) = missed_errors (same_encoding encoding v default) EncodedDefault (Ok v) (λ e. cc) tt

pub default_errors : {M : Type 0} (encoding : M → List ℕ) (default : M) (accepts : Tag → Bool) (read : List ℕ → Result (M × List ℕ) ReadError) → ((t : List ℕ) → IfErr (read t) IsOfInput) → (t : List ℕ) → IfErr (default_read accepts encoding read default t) IsOfInput
default_errors encoding default accepts read law t =
    bind_errors (option_read accepts read t) (λ x. read_default (same_encoding encoding) x.0 default >>= gave x.1) (option_errors accepts read law t)
    (λ x. bind_errors (read_default (same_encoding encoding) x.0 default) (gave x.1) (value_errors encoding default x.0) (λ y. tt))

pub default_one_encoding : (b : Bool) (octets : List ℕ) (encodings : List ℕ → Type 0) → ((t : List ℕ) → encodings t → t ≡ octets) → (t : List ℕ) → unless b encodings t → t ≡ unless_default_encoding b octets
default_one_encoding true octets encodings law t e = e
default_one_encoding false octets encodings law t e = law t e

has_unless : (b : Bool) (octets : List ℕ) (encodings : List ℕ → Type 0) → (b ≡ false → encodings octets) → unless b encodings (unless_default_encoding b octets)
has_unless true octets encodings law = refl
has_unless false octets encodings law = law refl

pub default_has_encoding : {M : Type 0} (encoding : M → List ℕ) (default : M) (encodings : M → List ℕ → Type 0) (valid : M → Type 0) → ((m : M) → valid m → encodings m (encoding m)) →
    (m : M) → (m ≡ default) ⊎ (valid m × (same_encoding encoding m default ≡ false)) → unless (same_encoding encoding m default) (encodings m) (default_text encoding default m)
default_has_encoding {M} encoding default encodings valid law m (inl e) = has_unless (same_encoding encoding m default) (encoding m) (encodings m) (λ other. not_both (same_encoding encoding m default) (ap (λ (x : M). same_encoding encoding x default) e ∙ same_encoding_refl encoding default) other)
default_has_encoding encoding default encodings valid law m (inr v) = has_unless (same_encoding encoding m default) (encoding m) (encodings m) (λ other. law m v.0)

pub default_at_most_one : (b : Bool) (encodings : List ℕ → Type 0) → ((t : List ℕ) → encodings t → IsNothingOrElement t) → (t : List ℕ) → unless b encodings t → IsNothingOrElement t
default_at_most_one true encodings law t e = inl e
default_at_most_one false encodings law t e = law t e

-- a value that is valid and allowed, taken apart
pub default_both : {M : Type 0} (default : M) (P Q : M → Type 0) (R : M → Type 0) (m : M) → (m ≡ default) ⊎ ((P m × Q m) × R m) → ((m ≡ default) ⊎ (P m × R m)) × ((m ≡ default) ⊎ Q m)
default_both default P Q R m (inl e) = (inl e, inl e)
default_both default P Q R m (inr h) = (inr (h.0.0, h.1), inr h.0.1)

pub default_weaker : {M : Type 0} (default : M) (P Q R : M → Type 0) → ((m : M) → P m → Q m) → (m : M) → (m ≡ default) ⊎ (P m × R m) → (m ≡ default) ⊎ Q m
default_weaker default P Q R law m (inl e) = inl e
default_weaker default P Q R law m (inr h) = inr (law m h.0)

-- no two values share an encoding: only the default has none
module _ {M : Type 0} (encoding : M → List ℕ) (default : M) (valid : M → Type 0) (not_empty : (m : M) → valid m → encoding m ≡ [] → ⊥) where
  other_not_empty : (m n : M) → m ≡ default → valid n × (same_encoding encoding n default ≡ false) → default_text encoding default m ≡ default_text encoding default n → ⊥
  other_not_empty m n is w same = not_empty n w.0 (sym (default_text_other encoding default n w.1) ∙ (sym same ∙ default_text_default encoding default m is))

  pub default_one_value : ((m n : M) → valid m → valid n → encoding m ≡ encoding n → m ≡ n) →
      (m n : M) → (m ≡ default) ⊎ (valid m × (same_encoding encoding m default ≡ false)) → (n ≡ default) ⊎ (valid n × (same_encoding encoding n default ≡ false)) →
      default_text encoding default m ≡ default_text encoding default n → m ≡ n
  default_one_value law m n (inl e) (inl f) same = e ∙ sym f
  default_one_value law m n (inl e) (inr w) same = absurd (other_not_empty m n e w same)
  default_one_value law m n (inr v) (inl f) same = absurd (other_not_empty n m f v (sym same))
  default_one_value law m n (inr v) (inr w) same =
      let one = default_text_other encoding default m v.1 in
      law m n v.0 w.0 (sym one ∙ (same ∙ default_text_other encoding default n w.1))
