-- Types that accept no tag in common.
use Rattle.std.specs.Prelude.{◌≡◌, ◌||◌, if◌then◌else◌, Bool, true, false, List, [], ◌∷◌}
use Rattle.std.proofs.Common.{inl, inr, refl, sym, ◌∙◌}
use Rattle.std.proofs.lemmas.Bool.{or_left, or_right}
use Rattle.asn1_core.specs.declared.tag.Tag.{Tag}
use Rattle.asn1_core.specs.Tag.{tag_eq}
use Rattle.asn1_core.specs.Apart.{AreApart, HasOneTagOutside, IsApartFromEach, IsFirst, one_accepts, Tags}
use Rattle.asn1_core.specs.Lemmas.Tags.{tag_eq_is}

pub not_first : (a b : Bool) → (a ≡ true → b ≡ false) → b ≡ true → a ≡ false
not_first true b d e = absurd (let f = d refl in cc)
not_first false b d e = refl

-- a tag that isn't accepted, as the one tag of a type
pub no_other_accepts : (a : Tag) (accepts : Tag → Bool) → accepts a ≡ false → (tag : Tag) → tag_eq tag a ≡ true → accepts tag ≡ false
no_other_accepts a accepts apart tag e = rw (tag_eq_is tag a e) apart

-- the tag of a type with one tag, which isn't among the others
pub one_tag_disjoint : (others : Tag → Bool) (t : Tags) → HasOneTagOutside others t → (tag : Tag) → t.accepts tag ≡ true → others tag ≡ false
one_tag_disjoint others t outside tag is = no_other_accepts t.own others outside.outside tag (sym (outside.one tag) ∙ is)

pub others_disjoint : (others : Tag → Bool) (t : Tags) → HasOneTagOutside others t → (tag : Tag) → others tag ≡ true → t.accepts tag ≡ false
others_disjoint others t outside tag is = not_first (t.accepts tag) (others tag) (one_tag_disjoint others t outside tag) is

pub AreApart_disjoint : (s t : Tags) → AreApart s t → (tag : Tag) → t.accepts tag ≡ true → s.accepts tag ≡ false
AreApart_disjoint s t (inl outside) = others_disjoint t.accepts s outside
AreApart_disjoint s t (inr (inl outside)) = one_tag_disjoint s.accepts t outside
AreApart_disjoint s t (inr (inr apart)) = apart

-- ---- tags of types that come first

pub IsApartFromEach_disjoint : (s : Tags) (ts : List Tags) → IsApartFromEach s ts → (tag : Tag) → IsFirst ts tag → s.accepts tag ≡ false
IsApartFromEach_disjoint s [] apart tag is = absurd is
IsApartFromEach_disjoint s (t ∷ ts) apart tag (inl is) = AreApart_disjoint s t apart.0 tag is
IsApartFromEach_disjoint s (t ∷ ts) apart tag (inr later) = IsApartFromEach_disjoint s ts apart.1 tag later.1

pub one_accepts_first : (ts : List Tags) (tag : Tag) → IsFirst ts tag → one_accepts ts tag ≡ true
one_accepts_first [] tag is = absurd is
one_accepts_first (t ∷ ts) tag (inl is) = or_left (t.accepts tag) (one_accepts ts tag) is
one_accepts_first (t ∷ ts) tag (inr later) = or_right (t.accepts tag) (one_accepts ts tag) (one_accepts_first ts tag later.1)

-- ---- tags of variants

pub one_side : (test a b c : Bool) → (b ≡ true → c ≡ true) → (if test then a else b) ≡ true → (a || c) ≡ true
one_side true true b c second is = refl
one_side true false b c second is = absurd cc
one_side false true b c second is = refl
one_side false false b c second is = second is
