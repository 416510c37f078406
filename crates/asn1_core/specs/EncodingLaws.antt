-- What holds of the data of a type's meaning: its laws, a record each for a type, for the content of a simple type, and
-- for a content without parts.
use Rattle.std.specs.Prelude.{ℕ, ◌<◌, ◌^◌, ◌≡◌, ◌⊎◌, ◌↔◌, List, [], ◌++◌, length, Result, Ok, IfErr, true, false}
use Rattle.asn1_core.specs.declared.tag.Tag.{Tag}
use Rattle.asn1_core.specs.declared.parser.Place.{Place}
use Rattle.asn1_core.specs.Base256.{IsOctets}
use Rattle.asn1_core.specs.Tag.{tag_eq}
use Rattle.asn1_core.specs.Element.{Element, element_encoding, leading_element}
use Rattle.asn1_core.specs.ReadError.{ReadError, IsOfInput}
use Rattle.asn1_core.specs.Writing.{IsElementOf}
use Rattle.asn1_core.specs.Reading.{Returns, Consumes, Fits, IsOneElement, IsNothingOrElement, simple, simple_out, simple_stops, begins_accepted}
use Rattle.asn1_core.specs.Encoding.{Content, Basic, Encoding}

-- the laws of the content of a simple type
pub record ContentLaws {M : Type 0} (c : Content M) : Type 0 where
  pub one_encoding : c.plain → (m : M) (t : List ℕ) → c.encodings m t → t ≡ c.encoding m
  pub has_encoding : c.plain → (m : M) → c.valid m → c.encodings m (c.encoding m)
  pub no_closures : c.plain → (m : M) → c.closures m
  -- if there is a valid value, something may be written, so nobody states a content of which nothing is written
  pub is_written : c.plain → ((m : M) × c.valid m) → (m : M) × c.encodings m (c.encoding m)
  pub consumes : (t : List ℕ) (m : M) → IsOctets t → c.read t ≡ Ok m → (t ≡ c.encoding m) × (c.valid m × c.allowed m)
  pub read_back : (m : M) → c.lawful → c.valid m → c.allowed m → length (c.encoding m) < 2 ^ 32 → c.read (c.encoding m) ≡ Ok m
  -- no two valid values have the same contents octets, be they allowed or not, if the type is read
  pub one_value : c.is_read → (m n : M) → c.lawful → c.valid m → c.valid n → c.encoding m ≡ c.encoding n → m ≡ n
  pub unbounded : (c.bounded → ⊥) → (m : M) → c.valid m → c.allowed m
  pub memory : (t : List ℕ) (places : List Place) → c.runs_out t places → c.takes_memory
  pub errors : (t : List ℕ) → IfErr (c.read t) IsOfInput

-- the laws of a content without parts
pub record BasicLaws {M : Type 0} (b : Basic M) : Type 0 where
  pub consumes : (c : List ℕ) (m : M) → IsOctets c → b.read c ≡ Ok m → (c ≡ b.encoding m) × b.valid m
  pub read_back : (m : M) → b.valid m → b.read (b.encoding m) ≡ Ok m
  pub errors : (c : List ℕ) → IfErr (b.read c) IsOfInput

-- The laws of a type. They are one field of `Der`, so that nobody states a type without a proof of them.
pub record EncodingLaws {M : Type 0} (e : Encoding M) : Type 1 where
  -- a plain type has no encoding but `text`
  pub one_encoding : e.plain → (m : M) (t : List ℕ) → e.encodings m t → t ≡ e.encoding m
  -- the encoding may be written
  pub has_encoding : e.plain → (m : M) → e.valid m → e.encodings m (e.encoding m)
  -- what is written of a value is nothing or one element
  pub at_most_one : (m : M) (t : List ℕ) → e.encodings m t → IsNothingOrElement t
  -- a plain type requires nothing of closures
  pub no_closures : e.plain → (m : M) → e.closures m
  -- what a read consumes is the encoding of the value that it returns, which is nothing or one readable element; the
  -- value is valid and allowed
  pub consumes : (t rest : List ℕ) (m : M) → IsOctets t → e.read t ≡ Ok (m, rest) → Consumes t (e.encoding m) rest × (e.valid m × e.allowed m)
  -- in a lawful type the encoding of a valid value is empty or one element
  pub nothing_or_element : (m : M) → e.lawful → e.valid m → (e.encoding m ≡ []) ⊎ IsOneElement (e.encoding m)
  -- if an encoding is an element, the type accepts its tag
  pub accepted : (m : M) (f : Element) → e.valid m → e.encoding m ≡ element_encoding f → e.accepts f.tag ≡ true
  -- if each encoding of a lawful type is an element, none is empty
  pub not_empty : (m : M) → e.lawful → e.is_element → e.valid m → e.encoding m ≡ [] → ⊥
  -- a lawful type reads the encoding of a valid, allowed value back, whatever octets are after it, if the encoding
  -- fits; after an empty one mustn't be an accepted tag
  pub read_back : (m : M) (rest : List ℕ) → e.lawful → e.valid m → e.allowed m → Fits (e.encoding m) → (e.encoding m ≡ [] → begins_accepted e.accepts rest ≡ false) → e.read (e.encoding m ++ rest) ≡ Ok (m, rest)
  -- no two valid values share an encoding, be they allowed or not, if the type is read
  pub one_value : e.is_read → (m n : M) → e.lawful → e.valid m → e.valid n → e.encoding m ≡ e.encoding n → m ≡ n
  -- nor do two that are allowed, be the type read or not, if the encoding fits
  pub one_allowed : (m n : M) → e.lawful → e.valid m → e.valid n → e.allowed m → e.allowed n → Fits (e.encoding m) → e.encoding m ≡ e.encoding n → m ≡ n
  -- a short encoding can be read
  pub short_fits : (m : M) → e.lawful → e.valid m → length (e.encoding m) < 2 ^ 32 → Fits (e.encoding m)
  -- a type without bounds reads each valid value back
  pub unbounded : (e.bounded → ⊥) → (m : M) → e.valid m → e.allowed m
  -- memory runs out only for a type that allocates
  pub memory : (t : List ℕ) (places : List Place) → e.runs_out t places → e.takes_memory
  -- memory runs out only if the octets begin with an element
  pub begins_with_element : (t : List ℕ) (places : List Place) → e.runs_out t places → (f : Element × List ℕ) × (leading_element t ≡ Ok f)
  -- the first error is never `AllocationError`
  pub errors : (t : List ℕ) → IfErr (e.read t) IsOfInput
  -- what the type requires of closures its content does
  pub as_closures : (m : M) → e.closures m → e.content.closures m
  -- a valid value is one of the content
  pub as_valid : (m : M) → e.valid m → e.content.valid m
  -- if reading the content allocates, so does reading the type
  pub as_memory : e.content.takes_memory → e.takes_memory
  -- if the content has bounds, so has the type
  pub as_bounded : e.content.bounded → e.bounded
  -- reading contents octets returns no `AllocationError` for a type that doesn't allocate
  pub as_errors : {V : Type 0} (meaning : V → M) → (e.takes_memory → ⊥) → (c : List ℕ) (result : Result V ReadError) → Returns meaning (e.content.runs_out c) result (e.content.read c) → IfErr result IsOfInput
  -- if the type is plain, so is its content
  pub as_plain : e.is_simple → e.plain → e.content.plain
  -- if the type is read, so is its content
  pub as_is_read : e.is_simple → e.is_read → e.content.is_read
  -- if the type is lawful, so is its content
  pub as_lawful : e.is_simple → e.lawful → e.content.lawful
  -- a write appends an element of its contents octets
  pub as_encodings : e.is_simple → (m : M) → e.encodings m ≡ IsElementOf e.content.tag (e.content.encodings m)
  -- the type accepts its own tag alone
  pub as_accepts : e.is_simple → (t : Tag) → e.accepts t ≡ tag_eq t e.content.tag
  -- reading is framing, the tag, and the content
  pub as_read : e.is_simple → (t : List ℕ) → e.read t ≡ simple e.content.tag e.content.read t
  -- memory may run out exactly in contents octets with the right tag
  pub as_out : e.is_simple → (t : List ℕ) (places : List Place) → simple_out e.content.tag e.content.runs_out t places ↔ e.runs_out t places
  -- a failed read leaves what `simple_stops` says
  pub as_stops : e.is_simple → (t rest : List ℕ) → simple_stops t rest ↔ e.stops t rest
  -- the content has its laws
  pub of_content : ContentLaws e.content
