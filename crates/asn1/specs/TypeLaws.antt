-- What holds of the types of this library, by what holds of their parts; and the laws of lists and of sets.
use Rattle.asn1_core.specs.Der.{Der}
use Rattle.std.specs.Prelude.{◌≡◌, ◌<◌, ◌^◌, ◌↔◌, ℕ, List, length, Ok, map, Option, Some, Result}
use Rattle.asn1_core.specs.Base256.{IsOctets}
use Rattle.std.specs.List.{concat, AllByRecursion}
use Rattle.asn1_core.specs.Listing.{encoding_less, IsListing, SameEncodings, IsElementEncoding}
use Rattle.asn1.specs.MadeLists.{in_order}
use Rattle.asn1.specs.Sets.{set_read, AreOrdered, set_left, IsSetContent}
use Rattle.asn1.specs.Lists.{AreItems, left}
use Rattle.asn1_core.specs.Reading.{Fits}
use Rattle.asn1_core.specs.Writing.{GivesLength}
use Rattle.std.specs.Fn.{Once}
use Rattle.std.specs.Borrow.{MutBor}
use Rattle.asn1_core.specs.SetWriting.{SetState, MayWriteSet}

-- The laws of reading back hold; a value has one encoding; reading doesn't allocate; and there are no bounds.
pub record IsSound {V : Type 0} (d : Der V) : Type 0 where
  pub lawful : d.lawful
  pub plain : d.plain
  pub takes_none : d.takes_memory → ⊥
  pub unbounded : d.bounded → ⊥

-- The same of a type that owns memory, which reading allocates.
pub record IsSoundOwned {V : Type 0} (d : Der V) : Type 0 where
  pub lawful : d.lawful
  pub plain : d.plain
  pub takes_some : d.takes_memory
  pub unbounded : d.bounded → ⊥

-- A type has one encoding a value if its part has, allocates only if its part does, and has no bounds of its own.
pub record Inherits {V W : Type 0} (part : Der V) (whole : Der W) : Type 0 where
  pub plain : part.plain → whole.plain
  pub takes_none : (part.takes_memory → ⊥) → whole.takes_memory → ⊥
  pub unbounded : (part.bounded → ⊥) → whole.bounded → ⊥

-- The same of a type with two parts.
pub record InheritsBoth {V U W : Type 0} (a : Der V) (b : Der U) (whole : Der W) : Type 0 where
  pub plain : a.plain → b.plain → whole.plain
  pub takes_none : (a.takes_memory → ⊥) → (b.takes_memory → ⊥) → whole.takes_memory → ⊥
  pub unbounded : (a.bounded → ⊥) → (b.bounded → ⊥) → whole.bounded → ⊥

-- ---- the laws of lists and of sets

-- The encoding of a valid value of the type that may be read back.
abbrev pub IsTextOf : {V : Type 0} → Der V → List ℕ → Type 0
IsTextOf d t = (m : d.Meaning) × d.valid m × d.allowed m × (t ≡ d.encoding m)

-- The contents octets are the listing of encodings of the type.
pub record IsListingOf {V : Type 0} (d : Der V) (c : List ℕ) : Type 0 where
  pub encodings : List (List ℕ)
  pub each : AllByRecursion (IsTextOf d) encodings
  pub listed : List (List ℕ)
  pub listing : IsListing encodings listed
  pub is : c ≡ concat listed

-- Contents octets that are short enough are read exactly if they are a listing of this kind.
abbrev pub ReadsListings : {V : Type 0} → Der V → Type 0
ReadsListings d = d.lawful → d.is_element → (c : List ℕ) → IsOctets c → length c < 2 ^ 32 → ((ms : List d.Meaning) × (set_read encoding_less d.read c ≡ Ok ms)) ↔ IsListingOf d c

-- The octets of items are the same exactly if the items are.
abbrev pub ListsTellItems : {V : Type 0} → Der V → Type 0
ListsTellItems d = (a b : List ℕ) (m n : ℕ) → IsOctets a → IsOctets b → AreItems d.read a m → AreItems d.read b n → (a ≡ b) ↔ (left d.read a ≡ left d.read b)

-- Two sets that were read have the same octets exactly if they have the same items.
abbrev pub SetsTellItems : {V : Type 0} → Der V → Type 0
SetsTellItems d = (a b : List ℕ) → IsOctets a → IsOctets b → AreOrdered encoding_less d.read a → AreOrdered encoding_less d.read b → (a ≡ b) ↔ (set_left encoding_less d.read a ≡ set_left encoding_less d.read b)

-- The encoding of each value is a readable element.
abbrev pub AreElements : {V : Type 0} → (d : Der V) → List d.Meaning → Type 0
AreElements d = AllByRecursion (λ m. IsElementEncoding (d.encoding m))

-- Sets of these values have the same encoding exactly if they have the same encodings of items, each as often.
abbrev pub SetsTellMultisets : {V : Type 0} → (d : Der V) → (List d.Meaning → List ℕ) → Type 0
SetsTellMultisets d set_text = (ms ns : List d.Meaning) → AreElements d ms → AreElements d ns
    → (set_text ms ≡ set_text ns) ↔ SameEncodings (map d.encoding ms) (map d.encoding ns)

-- Sets of valid values of a lawful element type have the same encoding exactly if they have the same encodings of
-- items, each as often, however long these are.
abbrev pub SetsTellValues : {V : Type 0} → (d : Der V) → (List d.Meaning → List ℕ) → Type 0
SetsTellValues d set_text = d.lawful → d.is_element → (ms ns : List d.Meaning) → AllByRecursion d.valid ms → AllByRecursion d.valid ns
    → (set_text ms ≡ set_text ns) ↔ SameEncodings (map d.encoding ms) (map d.encoding ns)

-- These values in order are the same exactly if they have the same encodings, each as often.
abbrev pub OrdersTellMultisets : {V : Type 0} → Der V → Type 0
OrdersTellMultisets d = d.is_read → d.lawful → (ms ns : List d.Meaning) → AllByRecursion d.valid ms → AllByRecursion d.valid ns
    → (in_order d.encoding ms ≡ in_order d.encoding ns) ↔ SameEncodings (map d.encoding ms) (map d.encoding ns)

-- The encoding of a valid value of a lawful element type is a readable element, if it is short enough to be read.
abbrev pub ValuesAreElements : {V : Type 0} → Der V → Type 0
ValuesAreElements d = d.lawful → d.is_element → (m : d.Meaning) → d.valid m → Fits (d.encoding m) → IsElementEncoding (d.encoding m)

-- The length of a value whose encoding can be read is known, if the type says so of the value.
abbrev pub KnowsLengths : {V : Type 0} → Der V → (V → Type 0) → Type 0
KnowsLengths {V} d has = (v : V) (known : Option ℕ) → GivesLength (has v) (d.encodings (d.meaning v)) known → has v → d.plain → d.valid (d.meaning v)
    → Fits (d.encoding (d.meaning v)) → known ≡ Some (length (d.encoding (d.meaning v)))

-- What a closure writes as a set is the contents octets of a set, if these are short enough to be read.
abbrev pub WritesSets : {F E : Type 0} → Once F (MutBor SetState × Unit {0}) (Result (Unit {0}) E × (MutBor SetState × Unit {0})) → Type 0
WritesSets {F} calls = (f : F) (content : List ℕ) → MayWriteSet calls f content → length content < 2 ^ 32 → IsSetContent content
