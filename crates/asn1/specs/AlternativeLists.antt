-- Choices of any number of alternatives (X.680 29): what a list of alternatives means.
use Rattle.std.specs.Prelude.{◌≡◌, ◌⊎◌, ℕ, Option, Some, Result, length}
use Rattle.std.proofs.Common.{inl, inr}
use Rattle.asn1_core.specs.Element.{Element, element_encoding}
use Rattle.asn1_core.specs.ReadError.{ReadError}
use Rattle.asn1_core.specs.Reading.{Fits, Returns}
use Rattle.asn1_core.specs.Der.{Der, encoding_of}
use Rattle.asn1.specs.declared.alternatives.NoOther.{NoOther}
use Rattle.asn1.specs.declared.alternatives.OneOf.{OneOf}
use Rattle.asn1.specs.declared.alternatives.OneOf.TheVariants.{First, Other}
use Rattle.asn1.specs.declared.alternatives.OneOfThree.{OneOfThree}
use Rattle.asn1.specs.declared.alternatives.OneOfThree.TheVariants as three
use Rattle.asn1.specs.declared.alternatives.OneOfEight.{OneOfEight}
use Rattle.asn1.specs.declared.alternatives.OneOfEight.TheVariants as eight
use Rattle.asn1.specs.Among.{Among3, Among8, first_of_3, second_of_3, third_of_3, after_3, first_of_8, second_of_8, third_of_8, fourth_of_8, fifth_of_8, sixth_of_8, seventh_of_8, eighth_of_8, after_8}
use Rattle.asn1.specs.Choices.{Alternatives, AlternativesLaws, or, or_three, or_eight, none}
use Rattle.asn1.specs.LawsOf.Choices.{none_laws, or_laws}
use Rattle.asn1.specs.LawsOf.Alternatives.{or_three_laws, or_eight_laws}
use Rattle.asn1.specs.Types.{choice_der}

-- ---- lists of alternatives as types

-- What a list of alternatives means.
pub record AlternativeList (V : Type 0) : Type 1 where
  pub Meaning : Type 0
  pub meaning : V → Meaning
  pub all : Alternatives Meaning
  pub laws : AlternativesLaws all

-- The list of no alternatives.
abbrev pub no_list : AlternativeList NoOther
no_list = record {
  Meaning = ⊥;
  meaning = elim [ ];
  all = none;
  laws = none_laws;
}

abbrev pub one_of_meaning : {A R M N : Type 0} → (A → M) → (R → N) → OneOf A R → M ⊎ N
one_of_meaning f g (First a) = inl (f a)
one_of_meaning f g (Other r) = inr (g r)

-- The list of an alternative and those of another list.
abbrev pub one_of : {A R : Type 0} → Der A → AlternativeList R → AlternativeList (OneOf A R)
one_of d others = record {
  Meaning = d.Meaning ⊎ others.Meaning;
  meaning = one_of_meaning d.meaning others.meaning;
  all = or (encoding_of d) others.all;
  laws = or_laws d.laws others.laws;
}

abbrev pub one_of_three_meaning : {A B C R Am Bm Cm Rm : Type 0} → (A → Am) → (B → Bm) → (C → Cm) → (R → Rm) → OneOfThree A B C R → Among3 Am Bm Cm Rm
one_of_three_meaning f1 f2 f3 g (three.First x) = first_of_3 (f1 x)
one_of_three_meaning f1 f2 f3 g (three.Second x) = second_of_3 (f2 x)
one_of_three_meaning f1 f2 f3 g (three.Third x) = third_of_3 (f3 x)
one_of_three_meaning f1 f2 f3 g (three.Others x) = after_3 (g x)

-- The list of three alternatives and those of another list.
abbrev pub one_of_three : {A B C R : Type 0} → Der A → Der B → Der C → AlternativeList R → AlternativeList (OneOfThree A B C R)
one_of_three a b c others = record {
  Meaning = Among3 a.Meaning b.Meaning c.Meaning others.Meaning;
  meaning = one_of_three_meaning a.meaning b.meaning c.meaning others.meaning;
  all = or_three (encoding_of a) (encoding_of b) (encoding_of c) others.all;
  laws = or_three_laws a.laws b.laws c.laws others.laws;
}

abbrev pub one_of_eight_meaning : {A B C D E F G H R Am Bm Cm Dm Em Fm Gm Hm Rm : Type 0} → (A → Am) → (B → Bm) → (C → Cm) → (D → Dm) → (E → Em) → (F → Fm) → (G → Gm) → (H → Hm) → (R → Rm) → OneOfEight A B C D E F G H R → Among8 Am Bm Cm Dm Em Fm Gm Hm Rm
one_of_eight_meaning f1 f2 f3 f4 f5 f6 f7 f8 g (eight.First x) = first_of_8 (f1 x)
one_of_eight_meaning f1 f2 f3 f4 f5 f6 f7 f8 g (eight.Second x) = second_of_8 (f2 x)
one_of_eight_meaning f1 f2 f3 f4 f5 f6 f7 f8 g (eight.Third x) = third_of_8 (f3 x)
one_of_eight_meaning f1 f2 f3 f4 f5 f6 f7 f8 g (eight.Fourth x) = fourth_of_8 (f4 x)
one_of_eight_meaning f1 f2 f3 f4 f5 f6 f7 f8 g (eight.Fifth x) = fifth_of_8 (f5 x)
one_of_eight_meaning f1 f2 f3 f4 f5 f6 f7 f8 g (eight.Sixth x) = sixth_of_8 (f6 x)
one_of_eight_meaning f1 f2 f3 f4 f5 f6 f7 f8 g (eight.Seventh x) = seventh_of_8 (f7 x)
one_of_eight_meaning f1 f2 f3 f4 f5 f6 f7 f8 g (eight.Eighth x) = eighth_of_8 (f8 x)
one_of_eight_meaning f1 f2 f3 f4 f5 f6 f7 f8 g (eight.Others x) = after_8 (g x)

-- The list of eight alternatives and those of another list.
abbrev pub one_of_eight : {A B C D E F G H R : Type 0} → Der A → Der B → Der C → Der D → Der E → Der F → Der G → Der H → AlternativeList R → AlternativeList (OneOfEight A B C D E F G H R)
one_of_eight a b c d e f g h others = record {
  Meaning = Among8 a.Meaning b.Meaning c.Meaning d.Meaning e.Meaning f.Meaning g.Meaning h.Meaning others.Meaning;
  meaning = one_of_eight_meaning a.meaning b.meaning c.meaning d.meaning e.meaning f.meaning g.meaning h.meaning others.meaning;
  all = or_eight (encoding_of a) (encoding_of b) (encoding_of c) (encoding_of d) (encoding_of e) (encoding_of f) (encoding_of g) (encoding_of h) others.all;
  laws = or_eight_laws a.laws b.laws c.laws d.laws e.laws f.laws g.laws h.laws others.laws;
}

-- What reading this element as one of the alternatives returns.
abbrev pub ReadsAlternative : {V : Type 0} → AlternativeList V → Element → Result V ReadError → Type 0
ReadsAlternative list e result = Returns list.meaning (list.all.runs_out e) result (list.all.read e)

-- This element is the encoding of this value, which is valid and within the bounds of its type.
abbrev pub IsAlternative : {V : Type 0} → AlternativeList V → V → Element → Type 0
IsAlternative list v e = (element_encoding e ≡ list.all.encoding (list.meaning v)) × (list.all.valid (list.meaning v) × list.all.allowed (list.meaning v))

-- Each value of the list has one encoding, which is read back.
abbrev pub EachHasOneEncoding : {V : Type 0} → AlternativeList V → Type 0
EachHasOneEncoding list = list.all.lawful × list.all.plain × list.all.is_read

-- ---- choices

-- A choice of the alternatives of a list. Each value is seen as one of these.
abbrev pub choice : {V W : Type 0} → (W → V) → AlternativeList V → Der W
choice view list = choice_der (λ w. list.meaning (view w)) list.all list.laws

-- ---- values of lists: of the alternatives at their front, and of those after these

abbrev pub first1 : {A R : Type 0} → A → OneOf A R
first1 x = First x

abbrev pub after1 : {A R : Type 0} → R → OneOf A R
after1 x = Other x

abbrev pub first3 : {A B C R : Type 0} → A → OneOfThree A B C R
first3 x = three.First x

abbrev pub second3 : {A B C R : Type 0} → B → OneOfThree A B C R
second3 x = three.Second x

abbrev pub third3 : {A B C R : Type 0} → C → OneOfThree A B C R
third3 x = three.Third x

abbrev pub after3 : {A B C R : Type 0} → R → OneOfThree A B C R
after3 x = three.Others x

abbrev pub first8 : {A B C D E F G H R : Type 0} → A → OneOfEight A B C D E F G H R
first8 x = eight.First x

abbrev pub second8 : {A B C D E F G H R : Type 0} → B → OneOfEight A B C D E F G H R
second8 x = eight.Second x

abbrev pub third8 : {A B C D E F G H R : Type 0} → C → OneOfEight A B C D E F G H R
third8 x = eight.Third x

abbrev pub fourth8 : {A B C D E F G H R : Type 0} → D → OneOfEight A B C D E F G H R
fourth8 x = eight.Fourth x

abbrev pub fifth8 : {A B C D E F G H R : Type 0} → E → OneOfEight A B C D E F G H R
fifth8 x = eight.Fifth x

abbrev pub sixth8 : {A B C D E F G H R : Type 0} → F → OneOfEight A B C D E F G H R
sixth8 x = eight.Sixth x

abbrev pub seventh8 : {A B C D E F G H R : Type 0} → G → OneOfEight A B C D E F G H R
seventh8 x = eight.Seventh x

abbrev pub eighth8 : {A B C D E F G H R : Type 0} → H → OneOfEight A B C D E F G H R
eighth8 x = eight.Eighth x

abbrev pub after8 : {A B C D E F G H R : Type 0} → R → OneOfEight A B C D E F G H R
after8 x = eight.Others x

-- This is the length of a value's encoding, if the value is valid and the encoding can be read.
abbrev pub IsLengthOf : {V : Type 0} → Der V → V → Option ℕ → Type 0
IsLengthOf d v known = d.valid (d.meaning v) → Fits (d.encoding (d.meaning v)) → known ≡ Some (length (d.encoding (d.meaning v)))
