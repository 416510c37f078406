-- The order of tags, and of the elements that have them.
use Rattle.std.proofs.Common.{◌≡◌, ℕ, ◌<◌, ◌^◌, ◌⊎◌, Bool, true, false, ◌&&◌, ◌||◌, eqb, ltb, ◌++◌, length, Some, refl, inl, inr}
use Rattle.std.proofs.lemmas.Bool.{and_parts, ltb-true, lt-ltb, eqb-true, eq-eqb, or_left, or_right, and_from}
use Rattle.asn1_core.specs.Tag.{tag_class, tag_number, class_number, tag_before, TagOrderIsAnswered, tag_at_start, tag_less}
use Rattle.asn1_core.specs.Length.{length_octets}
use Rattle.asn1_core.specs.Element.{Element, element_encoding}
use Rattle.asn1_core.specs.Lemmas.Tags.{leading_tag_identifier_octets}

or_true : (a b : Bool) → (a || b) ≡ true → (a ≡ true) ⊎ (b ≡ true)
or_true true b e = inl refl
or_true false b e = inr e

-- by classes and numbers
before_by : (k m x y : ℕ) → (ltb k m ≡ true) ⊎ ((eqb k m && ltb x y) ≡ true) → (k < m) ⊎ ((k ≡ m) × (x < y))
before_by k m x y (inl t) = inl (ltb-true k m t)
before_by k m x y (inr t) = let p = and_parts (eqb k m) (ltb x y) t in inr (eqb-true k m p.0, ltb-true x y p.1)

before_is : (k m x y : ℕ) → (ltb k m || (eqb k m && ltb x y)) ≡ true → (k < m) ⊎ ((k ≡ m) × (x < y))
before_is k m x y e = before_by k m x y (or_true (ltb k m) (eqb k m && ltb x y) e)

is_before : (k m x y : ℕ) → (k < m) ⊎ ((k ≡ m) × (x < y)) → (ltb k m || (eqb k m && ltb x y)) ≡ true
is_before k m x y (inl l) = or_left (ltb k m) _ (lt-ltb k m l)
is_before k m x y (inr p) = or_right (ltb k m) _ (and_from (eqb k m) (ltb x y) (eq-eqb k m p.0) (lt-ltb x y p.1))

pub tag_order_is_answered : TagOrderIsAnswered
tag_order_is_answered a b = (before_is (class_number (tag_class a)) (class_number (tag_class b)) (tag_number a) (tag_number b), is_before (class_number (tag_class a)) (class_number (tag_class b)) (tag_number a) (tag_number b))

-- the tag at the start of an element
pub tag_at_start_element_encoding : (e : Element) → e.tag.value < 2 ^ 32 → tag_at_start (element_encoding e) ≡ Some e.tag
unfolding element_encoding
tag_at_start_element_encoding e small = rw (leading_tag_identifier_octets e.tag (length_octets (length e.content) ++ e.content) small) refl

-- the encodings of elements have the order of their tags
pub tag_less_element_encoding : (e f : Element) → e.tag.value < 2 ^ 32 → f.tag.value < 2 ^ 32 → tag_less (element_encoding e) (element_encoding f) ≡ tag_before e.tag f.tag
tag_less_element_encoding e f small little = rw (tag_at_start_element_encoding e small, tag_at_start_element_encoding f little) refl
