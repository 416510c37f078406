-- Results of reading, by their cases.
use Rattle.std.proofs.Common.{◌≡◌, ℕ, List, [], Bool, true, false, if◌then◌else◌, Result, Ok, Err, refl, sym, ap, ◌⊎◌, inl, inr}
use Rattle.asn1_core.specs.declared.parser.ParseErrorKind.{ParseErrorKind}
use Rattle.asn1_core.specs.declared.parser.ParseErrorKind.TheVariants.{UnexpectedTag}
use Rattle.asn1_core.specs.declared.parser.Place.{Place}
use Rattle.asn1_core.specs.declared.tag.Tag.{Tag}
use Rattle.asn1_core.specs.Tag.{tag_eq}
use Rattle.asn1_core.specs.Element.{Element, leading_element, ◌>>=◌}
use Rattle.asn1_core.specs.ReadError.{ReadError, read_error, framed, ReturnsPlain}
use Rattle.asn1_core.specs.Reading.{Returns, expected, simple, content_of, expected_contents}

-- a result at Ok
abbrev pub done : {A : Type 0} → A → Result A ReadError
done x = Ok x

pub done_injective : {A : Type 0} (x y : A) → done x ≡ done y → x ≡ y
done_injective x y e = cc

pub bind_ok : {A B : Type 0} (r : Result A ReadError) (f : A → Result B ReadError) (y : B) → (r >>= f) ≡ Ok y → (x : A) × (r ≡ Ok x) × (f x ≡ Ok y)
bind_ok (Ok x) f y e = (x, refl, e)
bind_ok (Err d) f y e = absurd cc

pub framed_ok : {A : Type 0} (r : Result A ParseErrorKind) (x : A) → framed r ≡ Ok x → r ≡ Ok x
framed_ok (Ok y) x e = cc
framed_ok (Err kind) x e = absurd cc

-- a test with one result
pub if_cases : {A : Type 0} (b : Bool) (x y z : A) → (if b then x else y) ≡ z → ((b ≡ true) × (x ≡ z)) ⊎ ((b ≡ false) × (y ≡ z))
if_cases true x y z e = inl (refl, e)
if_cases false x y z e = inr (refl, e)

-- a test with an error in its second branch
pub if_ok_is : {A : Type 0} (b : Bool) (x : Result A ReadError) (d : ReadError) (y : A) → (if b then x else Err d) ≡ Ok y → (b ≡ true) × (x ≡ Ok y)
if_ok_is true x d y e = (refl, e)
if_ok_is false x d y e = absurd cc

read_error_kind : (e : ReadError) → e.places ≡ [] → read_error e.kind ≡ e
read_error_kind e none = ap (λ (places : List Place). record { kind = e.kind; places = places }) (sym none)

-- what framing returned is what a read returns
pub Returns_framed : {V A : Type 0} (view : V → A) (r : Result V ReadError) (answer : Result A ParseErrorKind) → ReturnsPlain view r answer → Returns view (λ places. ⊥) r (framed answer)
Returns_framed view (Ok v) answer e = rw e refl
Returns_framed view (Err f) answer e = inl (rw (e.0, read_error_kind f e.1) refl)

-- if reading the element with an expected tag gives an error, the simple type gives the same
other_tag : {M : Type 0} (b : Bool) (tag : Tag) (found : List ℕ × List ℕ) (read : Result (M × List ℕ) ReadError) (kind : ParseErrorKind) →
    (if b then Ok found else Err (UnexpectedTag tag)) ≡ Err kind → (if b then read else Err (read_error (UnexpectedTag tag))) ≡ Err (read_error kind)
other_tag true tag found read kind e = absurd cc
other_tag false tag found read kind e = let same : UnexpectedTag tag ≡ kind = cc in rw same refl

framed_refusal : {M : Type 0} (tag : Tag) (read : List ℕ → Result M ReadError) (r : Result (Element × List ℕ) ParseErrorKind) (kind : ParseErrorKind) →
    (r >>= content_of tag) ≡ Err kind → (framed r >>= expected tag read) ≡ Err (read_error kind)
framed_refusal tag read (Ok f) kind e = other_tag (tag_eq f.0.tag tag) f.0.tag (f.0.content, f.1) (read f.0.content >>= λ m. Ok (m, f.1)) kind e
framed_refusal tag read (Err k) kind e = let same : k ≡ kind = cc in rw same refl

pub simple_refusal : {M : Type 0} (tag : Tag) (read : List ℕ → Result M ReadError) (t : List ℕ) (kind : ParseErrorKind) → expected_contents tag t ≡ Err kind → simple tag read t ≡ Err (read_error kind)
simple_refusal tag read t kind e = framed_refusal tag read (leading_element t) kind e
