-- Inputs that are read to their end.
use Rattle.std.proofs.Common.{◌≡◌, ℕ, ◌<◌, ◌^◌, Bool, true, false, List, [], ◌∷◌, ◌++◌, length, Result, Ok, Err, IfErr, refl, sym, ap, subst, ◌∙◌, ◌⊎◌, inl, inr, arith}
use Rattle.std.specs.Prelude.{IfOk}
use Rattle.std.proofs.lemmas.List.{append-nil}
use Rattle.asn1_core.specs.declared.parser.Place.{Place}
use Rattle.asn1_core.specs.declared.tag.Tag.{Tag}
use Rattle.asn1_core.specs.Base256.{IsOctets}
use Rattle.asn1_core.specs.Tag.{identifier_octets}
use Rattle.asn1_core.specs.Length.{length_octets}
use Rattle.asn1_core.specs.Element.{element_encoding}
use Rattle.asn1_core.specs.ReadError.{ReadError, IsOfInput}
use Rattle.asn1_core.specs.Reading.{begins_accepted, Returns, IsErrorOf, PassesOn, Consumes, Fits, IsOneElement, all_taken, whole}
use Rattle.asn1_core.specs.Encoding.{Encoding}
use Rattle.asn1_core.specs.Lemmas.Tags.{leading_tag_empty, leading_tag_identifier_octets}
use Rattle.asn1_core.specs.Lemmas.Elements.{length_content_lt, element_encoding_append}
use Rattle.asn1_core.specs.Lemmas.Results.{done_injective, bind_ok}

pub all_taken_ok_is : {M : Type 0} (m x : M) (rest : List ℕ) → all_taken m rest ≡ Ok x → (rest ≡ []) × (m ≡ x)
all_taken_ok_is m x [] e = (refl, done_injective _ _ e)
all_taken_ok_is m x (octet ∷ octets) e = absurd cc

abbrev gave : {M : Type 0} → M → List ℕ → Result (M × List ℕ) ReadError
gave m rest = Ok (m, rest)

-- empty input begins with no accepted tag
pub begins_accepted_nil : (accepts : Tag → Bool) → begins_accepted accepts [] ≡ false
begins_accepted_nil accepts = rw (leading_tag_empty [] refl) refl

-- octets begin with an element with an accepted tag
pub begins_accepted_element : (accepts : Tag → Bool) (octets rest : List ℕ) (one : IsOneElement octets) → accepts one.element.tag ≡ true → begins_accepted accepts (octets ++ rest) ≡ true
begins_accepted_element accepts octets rest one a =
    let e = one.element in
    let at : octets ++ rest ≡ identifier_octets e.tag ++ (length_octets (length e.content) ++ (e.content ++ rest)) = ap (λ (t : List ℕ). t ++ rest) one.is ∙ element_encoding_append e rest in
    rw (at, leading_tag_identifier_octets e.tag (length_octets (length e.content) ++ (e.content ++ rest)) one.readable) a

-- what is read to its end is an encoding
pub whole_consumes : {M : Type 0} (encoding : M → List ℕ) (valid : M → Type 0) (read : List ℕ → Result (M × List ℕ) ReadError) →
    ((t rest : List ℕ) (m : M) → IsOctets t → read t ≡ Ok (m, rest) → Consumes t (encoding m) rest × valid m) →
    (t : List ℕ) (m : M) → IsOctets t → whole (read t) ≡ Ok m → Consumes t (encoding m) [] × valid m
whole_consumes {M} encoding valid read law t m is e =
    let p = bind_ok (read t) (λ x. all_taken x.0 x.1) m e in
    let q = all_taken_ok_is p.0.0 m p.0.1 p.2 in
    law t [] m is (p.1 ∙ (ap (λ (x : M). gave x p.0.1) q.1 ∙ ap (λ (r : List ℕ). gave m r) q.0))

-- values with the same encoding are the same, if each is read from its encoding
pub read_back_injective : {M : Type 0} (e : Encoding M) →
    ((m : M) (rest : List ℕ) → e.lawful → e.valid m → e.allowed m → Fits (e.encoding m) → (e.encoding m ≡ [] → begins_accepted e.accepts rest ≡ false) → e.read (e.encoding m ++ rest) ≡ Ok (m, rest)) →
    (m n : M) → e.lawful → e.valid m → e.valid n → e.allowed m → e.allowed n → Fits (e.encoding m) → e.encoding m ≡ e.encoding n → m ≡ n
read_back_injective {M} e law m n lawful v w a b fits same =
    let first = law m [] lawful v a fits (λ none. begins_accepted_nil e.accepts) in
    let second = law n [] lawful w b (subst Fits same fits) (λ none. begins_accepted_nil e.accepts) in
    ap (λ (x : M × List ℕ). x.0) (done_injective (m, []) (n, []) (sym first ∙ (ap (λ (t : List ℕ). e.read (t ++ [])) same ∙ second)))

-- an encoding is read to its end
pub whole_read_back : {M : Type 0} (encoding : M → List ℕ) (read : List ℕ → Result (M × List ℕ) ReadError) (m : M) (t : List ℕ) →
    read (encoding m ++ []) ≡ Ok (m, []) → t ≡ encoding m → whole (read t) ≡ Ok m
whole_read_back encoding read m t again e = rw (e, ← append-nil (encoding m), again) refl

-- what a call that reads to the end returned, if it returned a value
pub Returns_whole_ok : {V M : Type 0} (view : V → M) (out : List Place → Type 0) (encoding : M → List ℕ) (valid : M → Type 0) (read : List ℕ → Result (M × List ℕ) ReadError) →
    ((t rest : List ℕ) (m : M) → IsOctets t → read t ≡ Ok (m, rest) → Consumes t (encoding m) rest × valid m) →
    (t : List ℕ) (result : Result V ReadError) → IsOctets t → Returns view out result (whole (read t)) →
    IfOk result (λ v. (t ≡ encoding (view v)) × valid (view v))
Returns_whole_ok view out encoding valid read law t (Ok v) is e =
    let w = whole_consumes encoding valid read law t (view v) is e in
    (w.0.is ∙ append-nil (encoding (view v)), w.1)
Returns_whole_ok view out encoding valid read law t (Err f) is e = tt

-- an encoding that is empty or one element fits, if it is within contents octets that can be read
pub Fits_short : (octets : List ℕ) → (octets ≡ []) ⊎ IsOneElement octets → length octets < 2 ^ 32 → Fits octets
Fits_short octets (inl none) small = inl none
Fits_short octets (inr a) small =
    let same : length octets ≡ length (element_encoding a.element) = ap length a.is in
    inr (a.element, record { tag = a.readable; content = omega (arith, length_content_lt a.element) }, a.is)

IsErrorOf_whole : {M : Type 0} (out : List Place → Type 0) (read : Result (M × List ℕ) ReadError) (e : ReadError) → IsErrorOf out read e → IsErrorOf out (whole read) e
IsErrorOf_whole out read e (inl is) = inl (rw is refl)
IsErrorOf_whole out read e (inr is) = inr is

-- what a closure returned, if no octets may remain
pub Returns_whole : {V M : Type 0} (view : V → M) (out : List Place → Type 0) (read : Result (M × List ℕ) ReadError) (answer result : Result V ReadError) (rest : List ℕ) →
    Returns (λ v. (view v, rest)) out answer read → PassesOn (λ x y. y ≡ x) answer rest result → Returns view out result (whole read)
Returns_whole view out read (Err e) result rest h f = rw f (IsErrorOf_whole out read e h)
Returns_whole view out read (Ok v) result [] h f = rw (f, h) refl
Returns_whole view out read (Ok v) (Ok w) (octet ∷ octets) h f = absurd f
Returns_whole view out read (Ok v) (Err e) (octet ∷ octets) h f = inl (rw (h, ← f) refl)

-- if nothing is allocated, an error is one of the input
pub IfErr_Returns : {V M : Type 0} (view : V → M) (out : List Place → Type 0) (result : Result V ReadError) (read : Result M ReadError) → Returns view out result read → IfErr read IsOfInput → ((places : List Place) → out places → ⊥) → IfErr result IsOfInput
IfErr_Returns view out (Ok v) read h law none = tt
IfErr_Returns view out (Err e) read (inl h) law none = subst (λ (r : Result _ ReadError). IfErr r IsOfInput) h law
IfErr_Returns view out (Err e) read (inr h) law none = absurd (none e.places h.1)
