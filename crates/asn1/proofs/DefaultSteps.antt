-- What the code of a field with a default returns at each step, for the files `Returns.antt` of proofs.
use Rattle.std.proofs.Common.{◌≡◌, ℕ, ◌⊎◌, Bool, true, false, if◌then◌else◌, List, Option, Some, None, Result, Ok, Err, OnErr, refl, sym, ap, subst, ◌∙◌, inl, inr}
use Rattle.std.proofs.lemmas.Bool.Decides.{same_from_decides}
use Rattle.std.proofs.lemmas.Slice.Eq.{bytes_eq-Decides}
use Rattle.asn1_core.specs.declared.tag.Tag.{Tag}
use Rattle.asn1_core.specs.declared.parser.Place.{Place}
use Rattle.asn1_core.specs.declared.parser.ParseErrorKind.TheVariants.{EncodedDefault}
use Rattle.asn1_core.specs.Element.{◌>>=◌}
use Rattle.asn1_core.specs.ReadError.{ReadError, read_error}
use Rattle.asn1_core.specs.Reading.{Returns, IsErrorOf, begins_accepted}
use Rattle.asn1_core.specs.Options.{option_meaning, option_read}
use Rattle.asn1_core.specs.Lemmas.Results.{done_injective, bind_ok, if_cases}
use Rattle.asn1.specs.Defaults.{same_encoding, read_default, or_read_default, seen_ok, default_read}
use Rattle.asn1.specs.Defaulted.{EqualityTells}

true_or_false : (b : Bool) → (b ≡ true) ⊎ (b ≡ false)
true_or_false true = inl refl
true_or_false false = inr refl

seen_ok_if : {V M : Type 0} (view : V → M) (b : Bool) (v : V) → (if b then Err (read_error EncodedDefault) else Ok (view v)) ≡ seen_ok view (if b then Err (read_error EncodedDefault) else Ok v)
seen_ok_if view true v = refl
seen_ok_if view false v = refl

pair_eq_second : {A B : Type 0} (x y : A × B) → x ≡ y → x.1 ≡ y.1
pair_eq_second {A} {B} x y e = ap (λ (p : A × B). p.1) e

abbrev gave : {M : Type 0} → List ℕ → M → Result (M × List ℕ) ReadError
gave rest m = Ok (m, rest)

abbrev with_rest : {V M : Type 0} → (V → M) → List ℕ → V → M × List ℕ
with_rest view rest v = (view v, rest)

abbrev failed : {A : Type 0} → ReadError → Result A ReadError
failed e = Err e

failed_injective : {A : Type 0} (x y : ReadError) → failed {A = A} x ≡ failed y → x ≡ y
failed_injective x y e = cc

abbrev some_gave : {M : Type 0} → M × List ℕ → Result (Option M × List ℕ) ReadError
some_gave x = Ok (Some x.0, x.1)

None_ne_Some : {M : Type 0} (m : M) → ◌≡◌ {A = Option M} None (Some m) → ⊥
None_ne_Some m e = cc

None_pair_ne_Some_pair : {M : Type 0} (m : M) (t rest : List ℕ) → ◌≡◌ {A = Option M × List ℕ} (None, t) (Some m, rest) → ⊥
None_pair_ne_Some_pair {M} m t rest e = None_ne_Some m (ap (λ (p : Option M × List ℕ). p.0) e)

module _ {V M : Type 0} (meaning : V → M) (encoding : M → List ℕ) (same : V → V → Bool) where
  -- equality is the equality of encodings
  pub same_same_encoding : (a b : V) → EqualityTells meaning encoding same a b → same a b ≡ same_encoding encoding (meaning a) (meaning b)
  same_same_encoding a b tells =
      same_from_decides {P = encoding (meaning a) ≡ encoding (meaning b)} (same a b) (same_encoding encoding (meaning a) (meaning b)) (λ e. ap encoding (tells.means e), tells.equal) (bytes_eq-Decides (encoding (meaning a)) (encoding (meaning b)))

  -- a valid value means the default, or has another encoding
  pub equal_or_same_encoding_false : (valid : M → Type 0) (a b : V) → EqualityTells meaning encoding same a b → valid (meaning a) → (meaning a ≡ meaning b) ⊎ (valid (meaning a) × (same_encoding encoding (meaning a) (meaning b) ≡ false))
  equal_or_same_encoding_false valid a b tells v =
      elim (true_or_false (same a b)) [
        | inl e ↦ inl (tells.means e)
        | inr e ↦ inr (v, sym (same_same_encoding a b tells) ∙ e)
      ]

  module _ (b : V) (default : M) (default_is : meaning b ≡ default) (tells : (a : V) → EqualityTells meaning encoding same a b) where
    -- equality with the default is the equality of encodings
    pub same_default : (a : V) → same a b ≡ same_encoding encoding (meaning a) default
    same_default a = same_same_encoding a b (tells a) ∙ ap (λ (m : M). same_encoding encoding (meaning a) m) default_is

    -- ---- reading

    value_told : (o : Option V) → read_default (same_encoding encoding) (option_meaning meaning o) default ≡ seen_ok meaning (read_default same o b)
    value_told None = ap (λ (m : M). seen_ok (λ (x : M). x) (Ok m)) (sym default_is)
    value_told (Some a) = ap (λ (s : Bool). if s then Err (read_error EncodedDefault) else Ok (meaning a)) (sym (same_default a)) ∙ seen_ok_if meaning (same a b) a

    read_as : (accepts : Tag → Bool) (read : List ℕ → Result (M × List ℕ) ReadError) (t rest : List ℕ) (o : Option V) → option_read accepts read t ≡ Ok (option_meaning meaning o, rest) →
        (r : Result V ReadError) → r ≡ read_default same o b → default_read accepts encoding read default t ≡ (seen_ok meaning r >>= gave rest)
    read_as accepts read t rest o found r e =
        ap (λ (x : Result (Option M × List ℕ) ReadError). x >>= λ y. read_default (same_encoding encoding) y.0 default >>= gave y.1) found
        ∙ ap (λ (x : Result M ReadError). x >>= gave rest) (value_told o ∙ ap (seen_ok meaning) (sym e))

    module _ {W : Type 0} (view : W → V) (accepts : Tag → Bool) (read : List ℕ → Result (M × List ℕ) ReadError) (out : List Place → Type 0) (t rest : List ℕ) where
      pub answers_default : (found : Result (Option V) ReadError) (result : Result W ReadError) → Returns (with_rest (option_meaning meaning) rest) out found (option_read accepts read t) →
          seen_ok view result ≡ or_read_default same found b → Returns (with_rest (λ w. meaning (view w)) rest) out result (default_read accepts encoding read default t)
      answers_default (Ok o) (Ok w) h e = read_as accepts read t rest o h (Ok (view w)) e
      answers_default (Ok o) (Err f) h e = inl (read_as accepts read t rest o h (Err f) e)
      answers_default (Err f) (Ok w) h e = absurd cc
      answers_default (Err f) (Err k) h e =
          let P : ReadError → Type 0 = λ x. IsErrorOf out (default_read accepts encoding read default t) x in
          subst P (failed_injective {A = V} f k (sym e)) (elim h [
            | inl r ↦ inl (ap (λ (x : Result (Option M × List ℕ) ReadError). x >>= λ y. read_default (same_encoding encoding) y.0 default >>= gave y.1) r)
            | inr r ↦ inr r
          ])

  -- the octets that remain after a value that is the default
  read_default_err_read_ok : (b : V) (accepts : Tag → Bool) (read : List ℕ → Result (M × List ℕ) ReadError) (t rest : List ℕ) (o : Option V) (e : ReadError) →
      option_read accepts read t ≡ Ok (option_meaning meaning o, rest) → read_default same o b ≡ Err e → (m : M) × (read t ≡ Ok (m, rest))
  read_default_err_read_ok b accepts read t rest None e found refused = absurd cc
  read_default_err_read_ok b accepts read t rest (Some a) e found refused =
      elim (if_cases (begins_accepted accepts t) (read t >>= some_gave) (Ok (None, t)) (Ok (Some (meaning a), rest)) found) [
        | inl p ↦
            let q = bind_ok (read t) some_gave (Some (meaning a), rest) p.1 in
            (q.0.0, q.1 ∙ ap (λ (s : List ℕ). gave s q.0.0) (pair_eq_second _ _ (done_injective _ _ q.2)))
        | inr p ↦ absurd (None_pair_ne_Some_pair (meaning a) t rest (done_injective _ _ p.1))
      ]

  -- what a read leaves at an error
  pub stops_default : {W : Type 0} (view : W → V) (b : V) (accepts : Tag → Bool) (read : List ℕ → Result (M × List ℕ) ReadError) (out : List Place → Type 0) (stops : Type 0) (t rest : List ℕ) (found : Result (Option V) ReadError) (result : Result W ReadError) →
      Returns (with_rest (option_meaning meaning) rest) out found (option_read accepts read t) → OnErr found stops → seen_ok view result ≡ or_read_default same found b → OnErr result (stops ⊎ ((m : M) × (read t ≡ Ok (m, rest))))
  stops_default view b accepts read out stops t rest found (Ok w) h s e = tt
  stops_default view b accepts read out stops t rest (Err f) (Err k) h s e = inl s
  stops_default view b accepts read out stops t rest (Ok o) (Err k) h s e = inr (read_default_err_read_ok b accepts read t rest o k h (sym e))
