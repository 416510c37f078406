-- What reading returns.
use Rattle.std.specs.Prelude.{ℕ, ◌<◌, ◌^◌, ◌≡◌, ◌⊎◌, List, [], ◌∷◌, ◌++◌, if◌then◌else◌, Result, Ok, Err, Bool, false, IsErrAnd}
use Rattle.std.specs.Fn.{FnOnceReturnsAtMut, Once}
use Rattle.std.specs.Borrow.{MutBor}
use Rattle.asn1_core.specs.declared.parser.ParseErrorKind.{ParseErrorKind}
use Rattle.asn1_core.specs.declared.parser.ParseErrorKind.TheVariants.{AllocationError, ExtraData, InvalidValue, UnexpectedTag}
use Rattle.asn1_core.specs.declared.parser.Place.{Place}
use Rattle.asn1_core.specs.declared.tag.Tag.{Tag}
use Rattle.asn1_core.specs.Tag.{tag_eq, leading_tag}
use Rattle.asn1_core.specs.Element.{Element, element_encoding, IsReadable, leading_element, ◌>>=◌}
use Rattle.asn1_core.specs.ReadError.{ReadError, read_error, framed}

-- The error of a call is the first error, or `AllocationError` at one of the locations.
abbrev pub IsErrorOf : {M : Type 0} → (List Place → Type 0) → Result M ReadError → ReadError → Type 0
IsErrorOf out read e = (read ≡ Err e) ⊎ ((e.kind ≡ AllocationError) × out e.places)

-- A call returned what reading gives, its value seen through `view`; or memory ran out at one of the locations.
abbrev pub Returns : {V M : Type 0} → (V → M) → (List Place → Type 0) → Result V ReadError → Result M ReadError → Type 0
Returns view out (Ok v) read = read ≡ Ok (view v)
Returns view out (Err e) read = IsErrorOf out read e

-- The second octets are a suffix of the first.
abbrev pub EndsWith : List ℕ → List ℕ → Type 0
EndsWith octets back = (taken : List ℕ) × (octets ≡ taken ++ back)

abbrev pub all_taken : {M : Type 0} → M → List ℕ → Result M ReadError
all_taken m [] = Ok m
all_taken m (octet ∷ octets) = Err (read_error ExtraData)

-- No octets may remain after what was read.
abbrev pub whole : {M : Type 0} → Result (M × List ℕ) ReadError → Result M ReadError
whole read = read >>= λ x. all_taken x.0 x.1

-- Nothing, or the encoding of one readable element.
abbrev pub Fits : List ℕ → Type 0
Fits octets = (octets ≡ []) ⊎ ((e : Element) × IsReadable e × (octets ≡ element_encoding e))

-- Nothing, or the encoding of one element.
abbrev pub IsNothingOrElement : List ℕ → Type 0
IsNothingOrElement octets = (octets ≡ []) ⊎ ((e : Element) × (octets ≡ element_encoding e))

-- What is consumed at the start of `t` is `octets`, which are nothing or the encoding of one readable element; `rest`
-- remains.
pub record Consumes (t octets rest : List ℕ) : Type 0 where
  pub is : t ≡ octets ++ rest
  pub one : Fits octets

-- The element at the start and the remaining octets, or the error of framing.
abbrev pub framed_element : List ℕ → Result (Element × List ℕ) ReadError
framed_element t = framed (leading_element t)

abbrev pub expected : {M : Type 0} → Tag → (List ℕ → Result M ReadError) → Element × List ℕ → Result (M × List ℕ) ReadError
expected tag read f = if tag_eq f.0.tag tag then (read f.0.content >>= λ m. Ok (m, f.1)) else Err (read_error (UnexpectedTag f.0.tag))

-- A simple type: the element is read, then its tag is compared, then its contents octets are read.
abbrev pub simple : {M : Type 0} → Tag → (List ℕ → Result M ReadError) → List ℕ → Result (M × List ℕ) ReadError
simple tag read t = framed_element t >>= expected tag read

-- The contents octets of the first element, if it has this tag, and the remaining octets.
abbrev pub content_of : Tag → Element × List ℕ → Result (List ℕ × List ℕ) ParseErrorKind
content_of tag f = if tag_eq f.0.tag tag then Ok (f.0.content, f.1) else Err (UnexpectedTag f.0.tag)

abbrev pub expected_contents : Tag → List ℕ → Result (List ℕ × List ℕ) ParseErrorKind
expected_contents tag t = leading_element t >>= content_of tag

-- Memory may run out for a simple type as for its contents octets, if the first element has its tag.
abbrev pub simple_out : Tag → (List ℕ → List Place → Type 0) → List ℕ → List Place → Type 0
simple_out tag out t places = (f : Element × List ℕ) × (leading_element t ≡ Ok f) × (f.0.tag ≡ tag) × out f.0.content places

-- An error of framing consumes nothing; a later error consumes the element.
abbrev pub stops_after : Result (Element × List ℕ) ParseErrorKind → List ℕ → List ℕ → Type 0
stops_after (Ok f) t rest = rest ≡ f.1
stops_after (Err kind) t rest = rest ≡ t

-- What a read of a simple type leaves at an error.
abbrev pub simple_stops : List ℕ → List ℕ → Type 0
simple_stops t rest = stops_after (leading_element t) t rest

-- A failed read of any element consumes nothing.
abbrev pub tlv_stops : List ℕ → List ℕ → Type 0
tlv_stops t rest = rest ≡ t

-- Whether the octets begin with an accepted tag.
abbrev pub accepts_leading : (Tag → Bool) → Result (Tag × List ℕ) ParseErrorKind → Bool
accepts_leading accepts (Ok found) = accepts found.0
accepts_leading accepts (Err kind) = false

-- Whether the octets begin with a tag that is accepted.
abbrev pub begins_accepted : (Tag → Bool) → List ℕ → Bool
begins_accepted accepts t = accepts_leading accepts (leading_tag t)

-- The encoding of an element with a readable tag.
pub record IsOneElement (octets : List ℕ) : Type 0 where
  pub element : Element
  pub is : octets ≡ element_encoding element
  pub readable : element.tag.value < 2 ^ 32

-- Rejects the remaining octets with `ExtraData`, if there are any.
abbrev pub rest_rejected : List ℕ → Result (Unit {0}) ReadError
rest_rejected [] = Ok tt
rest_rejected (octet ∷ octets) = Err (read_error ExtraData)

-- A closure's result is passed on; but a value after which octets remain becomes an error, made from `ExtraData`.
abbrev pub PassesOn : {T E : Type 0} → (ReadError → E → Type 0) → Result T E → List ℕ → Result T E → Type 0
PassesOn gives (Err e) rest result = result ≡ Err e
PassesOn gives (Ok v) [] result = result ≡ Ok v
PassesOn gives (Ok v) (octet ∷ octets) result = IsErrAnd result (gives (read_error ExtraData))

-- The octets are read by the closure: at a parser over them it returned a result and left the remaining octets, and the
-- result is passed on, or is an error made from `ExtraData` if octets remain after a value.
abbrev pub ReadsBy : {F T E : Type 0} → Once F (MutBor (List ℕ) × Unit {0}) (Result T E × (MutBor (List ℕ) × Unit {0})) → (ReadError → E → Type 0) → F → List ℕ → Result T E → Type 0
ReadsBy {F} {T} {E} calls gives f octets result =
    (rest : List ℕ) × (answer : Result T E) × FnOnceReturnsAtMut calls f octets answer rest × PassesOn gives answer rest result

-- Rejects all contents octets, for a type that isn't simple or is only written.
abbrev pub rejects_all : {M : Type 0} → List ℕ → Result M ReadError
rejects_all c = Err (read_error InvalidValue)
