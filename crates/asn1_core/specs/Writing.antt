-- Writers as their callers see them, what is stated of closures that write, and the laws of writing.
use Rattle.std.specs.Prelude.{◌≡◌, ℕ, List, ◌++◌, length, ◌⊎◌, IfSome, Option, Result, Ok, Err, ◌+◌, ◌<◌, ◌^◌, Some}
use Rattle.std.specs.Fn.{FnOnceReturnsAtMut, Once}
use Rattle.std.specs.Borrow.{MutBor, GName}
use Rattle.asn1_core.specs.Buffer.{Buffer, KeepsPrefix}
use Rattle.asn1_core.specs.declared.tag.Tag.{Tag}
use Rattle.asn1_core.specs.Element.{element, element_encoding}
use Rattle.asn1_core.specs.declared.writer.WriteError.{WriteError}
use Rattle.asn1_core.specs.declared.writer.WriteError.TheVariants.{AllocationError}
use Rattle.asn1_core.specs.declared.writer.Writer.{Writer}
use Rattle.asn1_core.specs.Tag.{identifier_octets}
use Rattle.asn1_core.specs.Length.{length_octets}
use Rattle.asn1_core.specs.declared.writer.sets.SetOfWriter.{SetOfWriter}
use Rattle.asn1_core.specs.declared.writer.sets.SetWriter.{SetWriter}

-- ---- a body that writes into a buffer, and a closure that writes through a writer

module _ {F E : Type 0} (calls : Once F (MutBor Buffer × Unit {0}) (Result (Unit {0}) E × (MutBor Buffer × Unit {0}))) (body : F) where
  -- the body leaves the octets that were there as a prefix, at Ok and at Err
  abbrev pub LeavesPrefix : Type 0
  LeavesPrefix = (old : Buffer) (r : Result (Unit {0}) E) (new : Buffer) → FnOnceReturnsAtMut calls body old r new → KeepsPrefix old.bytes new.bytes

  -- the body may append these octets at Ok, after some prefix
  pub record MayAppend (octets : List ℕ) : Type 0 where
    pub old : Buffer
    pub new : Buffer
    pub called : FnOnceReturnsAtMut calls body old (Ok tt) new
    pub joined : new.bytes ≡ old.bytes ++ octets

  -- if a length is announced, whatever octets the body may append have that length
  abbrev pub Announces : Option ℕ → Type 0
  Announces announced = IfSome announced (λ n. (t : List ℕ) → MayAppend t → length t ≡ n)

  -- an element was appended whose contents octets the body may append
  pub record Appended (tag : Tag) (old new : List ℕ) : Type 0 where
    pub content : List ℕ
    pub allowed : MayAppend content
    pub joined : new ≡ old ++ element_encoding (element tag content)

  -- the body may return that error
  pub record BodyMayFail (e : E) : Type 0 where
    pub old : Buffer
    pub new : Buffer
    pub called : FnOnceReturnsAtMut calls body old (Err e) new

  -- out of memory, or an error that the body may return
  abbrev pub FailsAs : (WriteError → E → Type 0) → E → Type 0
  FailsAs gives e = gives AllocationError e ⊎ BodyMayFail e

module _ {F E : Type 0} (calls : Once F (MutBor Writer × Unit {0}) (Result (Unit {0}) E × (MutBor Writer × Unit {0}))) (f : F) where
  -- a call with the octets `old` in the buffer may return `r` and leave the octets `new`
  pub record WriterCall (old : List ℕ) (r : Result (Unit {0}) E) (new : List ℕ) : Type 0 where
    pub shown : MutBor Writer
    pub shows : shown.now.buf.now.bytes ≡ old
    pub left : MutBor Writer
    pub met : calls.post f (shown, tt) (r, (left, tt))
    pub leaves : left.now.buf.now.bytes ≡ new

  -- the closure may be called; at Ok and at Err it keeps the buffer, with the octets that were there as a prefix
  pub record IsWriter : Type 0 where
    pub callable : (shown : MutBor Writer) → calls.pre f (shown, tt)
    pub same_buffer : (shown left : MutBor Writer) (r : Result (Unit {0}) E) → calls.post f (shown, tt) (r, (left, tt)) → left.now.buf.ghost_name ≡ shown.now.buf.ghost_name
    pub front : (shown left : MutBor Writer) (r : Result (Unit {0}) E) → calls.post f (shown, tt) (r, (left, tt)) → KeepsPrefix shown.now.buf.now.bytes left.now.buf.now.bytes

  -- the closure may append these octets at Ok, after some prefix
  pub record MayWrite (octets : List ℕ) : Type 0 where
    pub front : List ℕ
    pub called : WriterCall front (Ok tt) (front ++ octets)

  -- the closure appends these octets whenever it returns Ok
  abbrev pub AlwaysAppends : List ℕ → Type 0
  AlwaysAppends octets = (shown left : MutBor Writer) → calls.post f (shown, tt) (Ok tt, (left, tt)) → left.now.buf.now.bytes ≡ shown.now.buf.now.bytes ++ octets

  -- the closure may return that error, with these octets in the buffer
  abbrev pub ClosureMayFailAfter : List ℕ → E → Type 0
  ClosureMayFailAfter old e = (new : List ℕ) × WriterCall old (Err e) new

  -- the closure may return that error
  pub record ClosureMayFail (e : E) : Type 0 where
    pub old : List ℕ
    pub new : List ℕ
    pub called : WriterCall old (Err e) new

-- ---- writers, and the laws of writing

-- if a length is known, each encoding has it
abbrev pub KnowsLength : (List ℕ → Type 0) → Option ℕ → Type 0
KnowsLength encodings known = IfSome known (λ n. (t : List ℕ) → encodings t → length t ≡ n)

-- the same; and the length of a value that has one is known, if a `usize` holds that length
pub record GivesLength (has : Type 0) (encodings : List ℕ → Type 0) (known : Option ℕ) : Type 0 where
  pub right : KnowsLength encodings known
  pub told : has → (t : List ℕ) → encodings t → length t < 2 ^ 64 → known ≡ Some (length t)

-- out of memory, or an error that is named
abbrev pub NamesError : {E : Type 0} → (WriteError → E → Type 0) → (E → Type 0) → E → Type 0
NamesError gives named e = gives AllocationError e ⊎ named e

-- the octets are the encoding of an element with that tag and one of these contents octets
pub record IsElementOf (tag : Tag) (contents : List ℕ → Type 0) (octets : List ℕ) : Type 0 where
  pub content : List ℕ
  pub is_content : contents content
  pub is : octets ≡ element_encoding (element tag content)

-- The count of octets of an element with this tag and n contents octets.
unfoldable pub full_count : Tag → ℕ → ℕ
full_count tag n = n + (length (identifier_octets tag) + length (length_octets n))

-- The name of the buffer that a writer writes into. Writers with the same one write into the same buffer.
abbrev pub buffer_name : Writer → GName
buffer_name w = w.buf.ghost_name

-- That buffer as it is: the octets written so far, and the room for more.
abbrev pub buffer_of : Writer → Buffer
buffer_of w = w.buf.now

-- The octets written so far.
abbrev pub octets_of : Writer → List ℕ
octets_of w = (buffer_of w).bytes

-- The items of the slice that is written as a set.
abbrev pub set_items : {T : Type 0} → SetOfWriter T → List T
set_items w = w.items.now

-- The closure that writes a set.
abbrev pub set_closure : {F E : Type 0} → SetWriter F E → F
set_closure w = w.f.now
