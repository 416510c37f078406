-- What the Rust values of wrappers, choices, lists and sets hold, for their callers.
use Rattle.std.specs.Prelude.{ℕ, List, ◌⊎◌, [], Result}
use Rattle.asn1.specs.declared.wrappers.tagged.Explicit.{Explicit}
use Rattle.asn1.specs.declared.wrappers.tagged.Implicit.{Implicit}
use Rattle.asn1.specs.declared.wrappers.tagged.OctetStringEncoded.{OctetStringEncoded}
use Rattle.asn1.specs.declared.wrappers.classes.TaggedExplicit.{TaggedExplicit}
use Rattle.asn1.specs.declared.wrappers.classes.TaggedImplicit.{TaggedImplicit}
use Rattle.asn1.specs.declared.wrappers.defaulted.Defaulted.{Defaulted}
use Rattle.asn1.specs.declared.wrappers.errors.ErrorInto.{ErrorInto}
use Rattle.asn1.specs.declared.lists.sequence_of.SequenceOf.{SequenceOf}
use Rattle.asn1.specs.declared.lists.sets.Set.{Set}
use Rattle.asn1.specs.declared.lists.sets.SetOf.{SetOf}
use Rattle.asn1.specs.declared.lists.writers.SequenceOfWriter.{SequenceOfWriter}
use Rattle.asn1.specs.declared.lists.writers.SequenceWriter.{SequenceWriter}
use Rattle.asn1_core.specs.declared.types.Asn1Type.{Ghosts}
use Rattle.asn1_core.specs.Listing.{encoding_less, sequence_tag}
use Rattle.asn1.specs.Lists.{left}
use Rattle.asn1.specs.Sets.{set_left}
use Rattle.asn1_core.specs.Octets.{octets_content}
use Rattle.asn1_core.specs.Encoding.{Content}
use Rattle.asn1.specs.declared.lists.sequence.Sequence.{Sequence}
use Rattle.std.proofs.Common.{inl, inr}
use Rattle.asn1.specs.declared.wrappers.choices.Choice1.{Choice1}
use Rattle.asn1.specs.declared.wrappers.choices.Choice2.{Choice2}
use Rattle.asn1.specs.declared.wrappers.choices.Choice3.{Choice3}
use Rattle.asn1.specs.declared.wrappers.choices.Choice1.TheVariants as one
use Rattle.asn1.specs.declared.wrappers.choices.Choice2.TheVariants as two
use Rattle.asn1.specs.declared.wrappers.choices.Choice3.TheVariants as three
use Rattle.std.specs.Fn.{Once}
use Rattle.std.specs.Borrow.{MutBor}
use Rattle.asn1_core.specs.declared.writer.Writer.{Writer}
use Rattle.asn1_core.specs.Writing.{IsWriter, MayWrite}
use Rattle.asn1_core.specs.SetWriting.{written}

-- The value in an `Explicit`.
abbrev pub explicit_inner : {T : Type 0} {tag : ℕ} → Explicit T tag → T
explicit_inner x = x.inner

-- The value in an `Implicit`.
abbrev pub implicit_inner : {T : Type 0} {tag : ℕ} → Implicit T tag → T
implicit_inner x = x.inner

-- The value in a `TaggedExplicit`.
abbrev pub tagged_explicit_inner : {T : Type 0} {class tag : ℕ} → TaggedExplicit T class tag → T
tagged_explicit_inner x = x.inner

-- The value in a `TaggedImplicit`.
abbrev pub tagged_implicit_inner : {T : Type 0} {class tag : ℕ} → TaggedImplicit T class tag → T
tagged_implicit_inner x = x.inner

-- The value in an `OctetStringEncoded`.
abbrev pub octet_string_inner : {T : Type 0} → OctetStringEncoded T → T
octet_string_inner x = x.inner

-- The value in a `Defaulted`.
abbrev pub defaulted_inner : {T D : Type 0} → Defaulted T D → T
defaulted_inner x = x.inner

-- The value in an `ErrorInto`.
abbrev pub error_into_inner : {A E : Type 0} → ErrorInto A E → A
error_into_inner x = x.inner

-- The items that are left of a list, as an invariant of a loop over it says them.
abbrev pub items_left : {V : Type 0} {t : Ghosts V} {low high : ℕ} → SequenceOf V low high t → List t.der.Meaning
items_left {t = t} list = left t.der.read list.content.now

-- The items that are left of a set.
abbrev pub set_items_left : {V : Type 0} {t : Ghosts V} → SetOf V t → List t.der.Meaning
set_items_left {t = t} set = set_left encoding_less t.der.read set.content.now

-- The items of the slice that is written as a sequence.
abbrev pub sequence_items : {T : Type 0} → SequenceOfWriter T → List T
sequence_items w = w.items.now

-- The closure that writes a sequence.
abbrev pub sequence_closure : {F E : Type 0} → SequenceWriter F E → F
sequence_closure w = w.f.now

-- The contents octets of a set of any elements.
abbrev pub octets_of_set : Set → List ℕ
octets_of_set s = s.«data».now

-- The contents octets of a `Sequence`, which are kept unread.
abbrev pub sequence_octets : Sequence → List ℕ
sequence_octets s = s.«data».now

-- Any octets, as in an octet string, under the tag of a sequence.
abbrev pub sequence_content : Content (List ℕ)
sequence_content = record octets_content { tag = sequence_tag }

-- What a choice of one alternative means.
abbrev pub choice1_meaning : {A M : Type 0} → (A → M) → Choice1 A → M
choice1_meaning f (one.ChoiceA v) = f v

-- What a choice of two alternatives means.
abbrev pub choice2_meaning : {A B M N : Type 0} → (A → M) → (B → N) → Choice2 A B → M ⊎ N
choice2_meaning f g (two.ChoiceA v) = inl (f v)
choice2_meaning f g (two.ChoiceB v) = inr (g v)

-- What a choice of three alternatives means.
abbrev pub choice3_meaning : {A B C M N K : Type 0} → (A → M) → (B → N) → (C → K) → Choice3 A B C → M ⊎ (N ⊎ K)
choice3_meaning f g h (three.ChoiceA v) = inl (f v)
choice3_meaning f g h (three.ChoiceB v) = inr (inl (g v))
choice3_meaning f g h (three.ChoiceC v) = inr (inr (h v))

-- what is required of the value in a choice
abbrev pub OfChoice1 : {A : Type 0} → (A → Type 0) → Choice1 A → Type 0
OfChoice1 f (one.ChoiceA v) = f v

-- What is required of the value in a choice of two.
abbrev pub OfChoice2 : {A B : Type 0} → (A → Type 0) → (B → Type 0) → Choice2 A B → Type 0
OfChoice2 f g (two.ChoiceA v) = f v
OfChoice2 f g (two.ChoiceB v) = g v

-- What is required of the value in a choice of three.
abbrev pub OfChoice3 : {A B C : Type 0} → (A → Type 0) → (B → Type 0) → (C → Type 0) → Choice3 A B C → Type 0
OfChoice3 f g h (three.ChoiceA v) = f v
OfChoice3 f g h (three.ChoiceB v) = g v
OfChoice3 f g h (three.ChoiceC v) = h v

-- An error that is made from one of these errors.
abbrev pub MadeFrom : {A E : Type 0} → (A → E → Type 0) → (A → Type 0) → E → Type 0
MadeFrom {A} gives one e = (a : A) × one a × gives a e

-- ---- what a closure writes as a sequence

-- The abstract value is the closure itself.
abbrev pub closure_written : {F E : Type 0} → Once F (MutBor Writer × Unit {0}) (Result (Unit {0}) E × (MutBor Writer × Unit {0})) → Content F
closure_written calls = written (record {
  tag = sequence_tag;
  encoding = λ f. [];
  encodings = MayWrite calls;
  closures = IsWriter calls;
  valid = λ f. Unit {0};
  plain = ⊥;
  lawful = ⊥;
})
