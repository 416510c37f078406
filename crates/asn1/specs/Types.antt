-- What the types of this crate mean: their data, and last the laws of these.
use Rattle.std.specs.Prelude.{ℕ, List}
use Rattle.asn1_core.specs.declared.tag.Tag.{Tag}
use Rattle.asn1_core.specs.Encoding.{simple_encoding}
use Rattle.asn1_core.specs.Der.{Der, encoding_of, der_of}
use Rattle.asn1.specs.ListTypes.{items_inside}
use Rattle.asn1.specs.SetTypes.{set_inside}
use Rattle.asn1.specs.Tagged.{one_inside, retagged}
use Rattle.asn1.specs.Defaulted.{default_encoding}
use Rattle.asn1.specs.Choices.{Alternatives, AlternativesLaws, choice_encoding}
use Rattle.asn1.specs.LawsOf.Lists.{list_laws, set_laws}
use Rattle.asn1.specs.LawsOf.Tagged.{inside_laws, changed_laws}
use Rattle.asn1.specs.LawsOf.Defaults.{default_laws}
use Rattle.asn1.specs.LawsOf.Choices.{choice_laws}

-- A list of items, as many as the bounds allow.
abbrev pub list_der : {V W : Type 0} → ℕ → ℕ → (d : Der V) → (W → List d.Meaning) → Der W
list_der low high d items = der_of items (simple_encoding (items_inside low high (encoding_of d))) (list_laws low high d.laws)

-- A set of items, in ascending order of their encodings.
abbrev pub set_der : {V W : Type 0} → (d : Der V) → (W → List d.Meaning) → Der W
set_der d items = der_of items (simple_encoding (set_inside (encoding_of d))) (set_laws d.laws)

-- A value in an element with this tag. (X.690 8.14.2)
abbrev pub inside_der : {V W : Type 0} → Tag → (W → V) → Der V → Der W
inside_der tag view d = der_of (λ w. d.meaning (view w)) (simple_encoding (one_inside tag (encoding_of d))) (inside_laws tag d.laws)

-- A value whose tag is changed. (X.690 8.14.3)
abbrev pub changed_der : {V W : Type 0} → (Tag → Tag) → (W → V) → Der V → Der W
changed_der change view d = der_of (λ w. d.meaning (view w)) (simple_encoding (retagged change d.content)) (changed_laws change d.laws)

-- A value of the type, which is encoded as nothing if its encoding is the encoding of the default.
abbrev pub default_der : {V W : Type 0} → (W → V) → (d : Der V) → d.Meaning → Der W
default_der view d default = der_of (λ w. d.meaning (view w)) (default_encoding (encoding_of d) default) (default_laws default d.laws)

-- a type whose values are those of alternatives
abbrev pub choice_der : {W M : Type 0} → (W → M) → (c : Alternatives M) → AlternativesLaws c → Der W
choice_der view c laws = der_of view (choice_encoding c) (choice_laws laws)
