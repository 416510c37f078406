-- Types of which one follows the other, and that are told from each other by their tags.
use Rattle.std.specs.Prelude.{◌≡◌, ◌⊎◌, ◌||◌, List, [], ◌∷◌, Bool, true, false}
use Rattle.asn1_core.specs.declared.tag.Tag.{Tag}
use Rattle.asn1_core.specs.Tag.{tag_eq}
use Rattle.asn1_core.specs.Encoding.{Encoding}

-- the tags of a type
pub record Tags : Type 1 where
  -- the tags that an element of the type may have
  pub accepts : Tag → Bool
  -- its one tag, if it has one; else any
  pub own : Tag
  -- each encoding is one element
  pub is_element : Type 0

-- The tags of the type with these encodings.
abbrev pub tags_of : {M : Type 0} → Encoding M → Tags
tags_of e = record { accepts = e.accepts; own = e.content.tag; is_element = e.is_element }

-- A value of one of these types, one after another, may begin with the tag, since those before it may be missing.
abbrev pub IsFirst : List Tags → Tag → Type 0
IsFirst [] tag = ⊥
IsFirst (t ∷ ts) tag = (t.accepts tag ≡ true) ⊎ ((t.is_element → ⊥) × IsFirst ts tag)

-- One of these types accepts the tag.
abbrev pub one_accepts : List Tags → Tag → Bool
one_accepts [] tag = false
one_accepts (t ∷ ts) tag = t.accepts tag || one_accepts ts tag

-- A type has one tag, which isn't among the others.
pub record HasOneTagOutside (others : Tag → Bool) (t : Tags) : Type 0 where
  pub one : (tag : Tag) → t.accepts tag ≡ tag_eq tag t.own
  pub outside : others t.own ≡ false

-- No tag is accepted by both types. If one of the two has one tag, this is computed; else it is said of each tag.
abbrev pub AreApart : Tags → Tags → Type 0
AreApart s t = HasOneTagOutside t.accepts s ⊎ (HasOneTagOutside s.accepts t ⊎ ((tag : Tag) → t.accepts tag ≡ true → s.accepts tag ≡ false))

-- The same of a type and of each of the others.
abbrev pub IsApartFromEach : Tags → List Tags → Type 0
IsApartFromEach s [] = Unit {0}
IsApartFromEach s (t ∷ ts) = AreApart s t × IsApartFromEach s ts
