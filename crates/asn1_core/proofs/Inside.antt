-- The laws of contents octets that hold one value, what calls that read a prefix took, and what calls return for the
-- encoding of a value.
use Rattle.std.proofs.Common.{◌≡◌, ℕ, ◌<◌, ◌^◌, Bool, true, false, if◌then◌else◌, List, [], ◌∷◌, ◌++◌, length, Result, Ok, Err, refl, sym, ap, subst, ◌∙◌, ◌⊎◌, inl, inr, arith}
use Rattle.std.specs.Prelude.{IfOk, IsOk}
use Rattle.std.proofs.lemmas.List.{append-nil, length-append}
use Rattle.asn1_core.specs.declared.parser.Place.{Place}
use Rattle.asn1_core.specs.declared.tag.Tag.{Tag}
use Rattle.asn1_core.specs.Base256.{IsOctets}
use Rattle.asn1_core.specs.ReadError.{ReadError}
use Rattle.asn1_core.specs.Reading.{Returns, Consumes, Fits, IsOneElement, begins_accepted, content_of, expected_contents, simple, simple_out, whole}
use Rattle.asn1_core.specs.Tag.{tag_eq}
use Rattle.asn1_core.specs.Element.{Element, leading_element, ◌>>=◌}
use Rattle.asn1_core.specs.Lemmas.Tags.{tag_eq_is}
use Rattle.asn1_core.specs.declared.parser.ParseErrorKind.{ParseErrorKind}
use Rattle.asn1_core.specs.Der.{Der}
use Rattle.asn1_core.specs.Reads.{Encodes, IsEncodingOf, ReadsContents, ReadsPrefix, ReturnsValue, IsReadValue}
use Rattle.asn1_core.specs.Lemmas.Results.{done_injective}
use Rattle.asn1_core.specs.Lemmas.Wholes.{whole_consumes, whole_read_back, Fits_short, begins_accepted_nil}

pub inside_consumes : {M : Type 0} (encoding : M → List ℕ) (valid : M → Type 0) (read : List ℕ → Result (M × List ℕ) ReadError) →
    ((t rest : List ℕ) (m : M) → IsOctets t → read t ≡ Ok (m, rest) → Consumes t (encoding m) rest × valid m) →
    (c : List ℕ) (m : M) → IsOctets c → whole (read c) ≡ Ok m → (c ≡ encoding m) × valid m
inside_consumes encoding valid read law c m is e =
    let w = whole_consumes encoding valid read law c m is e in
    (w.0.is ∙ append-nil (encoding m), w.1)

pub inside_read_back : {M : Type 0} (accepts : Tag → Bool) (encoding : M → List ℕ) (read : List ℕ → Result (M × List ℕ) ReadError) (m : M) →
    (encoding m ≡ []) ⊎ IsOneElement (encoding m) →
    (Fits (encoding m) → (encoding m ≡ [] → begins_accepted accepts [] ≡ false) → read (encoding m ++ []) ≡ Ok (m, [])) →
    length (encoding m) < 2 ^ 32 → whole (read (encoding m)) ≡ Ok m
inside_read_back accepts encoding read m shape again small = whole_read_back encoding read m (encoding m) (again (Fits_short (encoding m) shape small) (λ e. begins_accepted_nil accepts)) refl

-- what a read consumes is short enough to be read
pub consumes_read_value : {V : Type 0} (d : Der V) (t rest : List ℕ) (m : d.Meaning) → IsOctets t → d.read t ≡ Ok (m, rest) → Consumes t (d.encoding m) rest × IsReadValue d m
consumes_read_value d t rest m is e = let h = d.laws.consumes t rest m is e in (h.0, (h.1.0, (h.1.1, h.0.one)))

-- what a call took that returned a value: the value's encoding
pub Returns_consumed : {V M : Type 0} (view : V → M) (out : List Place → Type 0) (encoding : M → List ℕ) (good : M → Type 0) (read : List ℕ → Result (M × List ℕ) ReadError) →
    ((t rest : List ℕ) (m : M) → IsOctets t → read t ≡ Ok (m, rest) → Consumes t (encoding m) rest × good m) →
    (t rest : List ℕ) (result : Result V ReadError) → IsOctets t → Returns (λ v. (view v, rest)) out result (read t) → IfOk result (λ v. (t ≡ encoding (view v) ++ rest) × good (view v))
Returns_consumed view out encoding good read law t rest (Ok v) is answers = let took = law t rest (view v) is answers in (took.0.is, took.1)
Returns_consumed view out encoding good read law t rest (Err e) is answers = tt

-- what a call returned whose read gives this value
pub Returns_ReturnsValue : {V : Type 0} (d : Der V) (out : List Place → Type 0) (result : Result V ReadError) (remaining : List ℕ) (m : d.Meaning) (rest : List ℕ) (read : Result (d.Meaning × List ℕ) ReadError) →
    Returns (λ v. (d.meaning v, remaining)) out result read → read ≡ Ok (m, rest) → ReturnsValue d out result remaining m rest
Returns_ReturnsValue d out result remaining m rest read answers e = subst (λ (r : Result (d.Meaning × List ℕ) ReadError). Returns (λ v. (d.meaning v, remaining)) out result r) e answers

-- an element with the expected tag
contents_are : (b : Bool) (found answer : List ℕ × List ℕ) (kind : ParseErrorKind) → (if b then Ok found else Err kind) ≡ Ok answer → (b ≡ true) × (found ≡ answer)
contents_are true found answer kind e = (refl, cc)
contents_are false found answer kind e = absurd cc

abbrev parts : Element × List ℕ → List ℕ × List ℕ
parts f = (f.0.content, f.1)

element_expected : (tag : Tag) (answer : List ℕ × List ℕ) (r : Result (Element × List ℕ) ParseErrorKind) → (r >>= content_of tag) ≡ Ok answer
    → (f : Element × List ℕ) × (r ≡ Ok f) × (tag_eq f.0.tag tag ≡ true) × (parts f ≡ answer)
element_expected tag answer (Ok f) e = let is = contents_are (tag_eq f.0.tag tag) (f.0.content, f.1) answer _ e in (f, refl, is.0, is.1)
element_expected tag answer (Err kind) e = absurd cc

-- what reading the contents octets of an element gave is what reading the element gives
pub Returns_simple : {V M : Type 0} (view : V → M) (out : List ℕ → List Place → Type 0) (tag : Tag) (read : List ℕ → Result M ReadError) (t content rest : List ℕ) (result : Result V ReadError) →
    expected_contents tag t ≡ Ok (content, rest) → Returns view (out content) result (read content) → Returns (λ v. (view v, rest)) (simple_out tag out t) result (simple tag read t)
Returns_simple {M = M} view out tag read t content rest result e answers = returned result answers
  where
    found : (f : Element × List ℕ) × (leading_element t ≡ Ok f) × (tag_eq f.0.tag tag ≡ true) × (parts f ≡ (content, rest))
    found = element_expected tag (content, rest) (leading_element t) e

    same_content : found.0.0.content ≡ content
    same_content = ap (λ (p : List ℕ × List ℕ). p.0) found.3

    same_rest : found.0.1 ≡ rest
    same_rest = ap (λ (p : List ℕ × List ℕ). p.1) found.3

    is : simple tag read t ≡ (read content >>= λ m. Ok (m, rest))
    is = rw (found.1, found.2, same_content, same_rest) refl

    returned : (r : Result _ ReadError) → Returns view (out content) r (read content) → Returns (λ v. (view v, rest)) (simple_out tag out t) r (simple tag read t)
    returned (Ok v) answer = rw (is, answer) refl
    returned (Err d) (inl answer) = inl (rw (is, answer) refl)
    returned (Err d) (inr answer) = inr (answer.0, (found.0, found.1, tag_eq_is found.0.0.tag tag found.2, rw same_content answer.1))

-- memory may run out at more locations
Returns_weaker : {V M : Type 0} (view : V → M) {P Q : List Place → Type 0} → ((places : List Place) → P places → Q places) → (result : Result V ReadError) (read : Result M ReadError) → Returns view P result read → Returns view Q result read
Returns_weaker view more (Ok v) read answers = answers
Returns_weaker view more (Err e) read (inl answers) = inl answers
Returns_weaker view more (Err e) read (inr answers) = inr (answers.0, more e.places answers.1)

-- the same of a type with a tag of its own
pub Returns_simple_type : {V : Type 0} (d : Der V) → d.is_simple → (t content rest : List ℕ) (result : Result V ReadError) →
    expected_contents d.content.tag t ≡ Ok (content, rest) → ReadsContents d content result → ReadsPrefix d t rest result
Returns_simple_type d simple_type t content rest result e answers =
    rw (d.laws.as_read simple_type t) (Returns_weaker (λ v. (d.meaning v, rest)) (λ places out. (d.laws.as_out simple_type t places).0 out) result _
    (Returns_simple d.meaning d.content.runs_out d.content.tag d.content.read t content rest result e answers))

length_suffix_lt : (octets rest t : List ℕ) → t ≡ octets ++ rest → (octets ≡ [] → ⊥) → length rest < length t
length_suffix_lt [] rest t is some = absurd (some refl)
length_suffix_lt (octet ∷ octets) rest t is some = omega (arith, ap length is, length-append octets rest)

-- what remains after a value is shorter, if no value's encoding is empty
pub length_remaining_lt : {V M : Type 0} (view : V → M) (encoding : M → List ℕ) (good : M → Type 0) (t rest : List ℕ) (result : Result V ReadError) → ((m : M) → good m → encoding m ≡ [] → ⊥) →
    IfOk result (λ v. (t ≡ encoding (view v) ++ rest) × good (view v)) → IfOk result (λ v. length rest < length t)
length_remaining_lt view encoding good t rest (Ok v) solid took = length_suffix_lt (encoding (view v)) rest t took.0 (solid (view v) took.1)
length_remaining_lt view encoding good t rest (Err e) solid took = tt

module _ {V : Type 0} (d : Der V) (octets : List ℕ) where
  -- the encoding of a value is read to its end, as that value
  pub whole_Encodes : (m : d.Meaning) → d.lawful → Encodes d m octets → whole (d.read octets) ≡ Ok m
  whole_Encodes m lawful h = whole_read_back d.encoding d.read m octets
      (d.laws.read_back m [] lawful h.valid h.allowed h.fits (λ e. begins_accepted_nil d.accepts)) h.is

  -- it is the encoding of no other
  pub Encodes_injective : (m n : d.Meaning) → d.lawful → Encodes d m octets → Encodes d n octets → m ≡ n
  Encodes_injective m n lawful h k = done_injective m n (sym (whole_Encodes m lawful h) ∙ whole_Encodes n lawful k)

  -- a call returns a value for it, if nothing is allocated
  pub IsOk_Encodes : (result : Result V ReadError) (m : d.Meaning) → d.lawful → Encodes d m octets → (d.takes_memory → ⊥)
      → Returns d.meaning (d.runs_out octets) result (whole (d.read octets)) → IsOk result
  IsOk_Encodes (Ok v) m lawful h none answers = refl
  IsOk_Encodes (Err e) m lawful h none (inl answers) = let is = sym (whole_Encodes m lawful h) ∙ answers in absurd cc
  IsOk_Encodes (Err e) m lawful h none (inr answers) = absurd (none (d.laws.memory octets e.places answers.1))

  -- a value that a call returns is the one whose encoding it is
  pub IfOk_one_value : (result : Result V ReadError) → d.is_read → d.lawful → IfOk result (λ v. IsEncodingOf d v octets)
      → (m : d.Meaning) → d.valid m → octets ≡ d.encoding m → IfOk result (λ v. d.meaning v ≡ m)
  IfOk_one_value (Ok v) is lawful found m valid e = d.laws.one_value is (d.meaning v) m lawful found.1.0 valid (sym found.0 ∙ e)
  IfOk_one_value (Err f) is lawful found m valid e = tt
