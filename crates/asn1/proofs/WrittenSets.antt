-- Elements that were written one after another in order are the contents octets of a set.
use Rattle.std.proofs.Common.{◌≡◌, ◌<◌, ◌≤◌, ◌^◌, ◌++◌, ◌∙◌, ℕ, List, [], ◌∷◌, length, Option, Some, None, Result, false, refl, sym, ap, subst, arith, append_assoc, length-append}
use Rattle.std.proofs.lemmas.List.{append-nil}
use Rattle.std.specs.Fn.{Once}
use Rattle.std.specs.Borrow.{MutBor}
use Rattle.asn1_core.specs.declared.tag.Tag.{Tag}
use Rattle.asn1_core.specs.Tag.{identifier_octets, IsTagBefore, before_tag}
use Rattle.asn1_core.specs.Length.{length_octets}
use Rattle.asn1_core.specs.Element.{Element, element_encoding, IsReadable}
use Rattle.std.specs.List.{flat_map, AllByRecursion}
use Rattle.asn1_core.specs.SetWriting.{SetState, OrderedElements, no_element, one_more}
use Rattle.asn1_core.proofs.TagOrder.{tag_order_is_answered}
use Rattle.asn1.specs.Sets.{TagsInOrder, IsSetContent}
use Rattle.asn1.specs.TypeLaws.{WritesSets}

-- the tag of the last element
abbrev last_tag : List Element → Option Tag
last_tag [] = None
last_tag (e ∷ []) = Some e.tag
last_tag (e ∷ f ∷ es) = last_tag (f ∷ es)

-- elements with tag numbers below 2^32, concatenated in the order of their tags
record Ordered (done : List ℕ) (last : Option Tag) : Type 0 where
  pub elements : List Element
  pub small : AllByRecursion (λ e. e.tag.value < 2 ^ 32) elements
  pub ordered : TagsInOrder elements
  pub is : done ≡ flat_map element_encoding elements
  pub ends : last ≡ last_tag elements

flat_map_push : (es : List Element) (e : Element) → flat_map element_encoding (es ++ e ∷ []) ≡ flat_map element_encoding es ++ element_encoding e
flat_map_push [] e = append-nil (element_encoding e)
flat_map_push (f ∷ es) e = ap (λ (t : List ℕ). element_encoding f ++ t) (flat_map_push es e) ∙ sym (append_assoc (element_encoding f) (flat_map element_encoding es) (element_encoding e))

small_tags_push : (es : List Element) (e : Element) → AllByRecursion (λ x. x.tag.value < 2 ^ 32) es → e.tag.value < 2 ^ 32 → AllByRecursion (λ x. x.tag.value < 2 ^ 32) (es ++ e ∷ [])
small_tags_push [] e h small = (small, tt)
small_tags_push (f ∷ es) e h small = (h.0, small_tags_push es e h.1 small)

last_tag_push : (es : List Element) (e : Element) → last_tag (es ++ e ∷ []) ≡ Some e.tag
last_tag_push [] e = refl
last_tag_push (f ∷ []) e = refl
last_tag_push (f ∷ g ∷ es) e = last_tag_push (g ∷ es) e

before_tag_false : (a b : Tag) → before_tag (Some a) (Some b) ≡ false → IsTagBefore a b → ⊥
before_tag_false a b apart before = let e = (tag_order_is_answered a b).1 before in cc

TagsInOrder_push : (es : List Element) (e : Element) → TagsInOrder es → before_tag (Some e.tag) (last_tag es) ≡ false → TagsInOrder (es ++ e ∷ [])
TagsInOrder_push [] e h apart = tt
TagsInOrder_push (f ∷ []) e h apart = (before_tag_false e.tag f.tag apart, tt)
TagsInOrder_push (f ∷ g ∷ es) e h apart = (h.0, TagsInOrder_push (g ∷ es) e h.1 apart)

OrderedElements_Ordered : (done : List ℕ) (last : Option Tag) → OrderedElements done last → Ordered done last
OrderedElements_Ordered _ _ no_element = record { elements = []; small = tt; ordered = tt; is = refl; ends = refl }
OrderedElements_Ordered _ _ (one_more {done} {last} e before small apart) =
    let h = OrderedElements_Ordered done last before in
    record {
      elements = h.elements ++ e ∷ [];
      small = small_tags_push h.elements e h.small small;
      ordered = TagsInOrder_push h.elements e h.ordered (subst (λ (t : Option Tag). before_tag (Some e.tag) t ≡ false) h.ends apart);
      is = ap (λ (t : List ℕ). t ++ element_encoding e) h.is ∙ sym (flat_map_push h.elements e);
      ends = sym (last_tag_push h.elements e);
    }

length_content_le : (e : Element) → length e.content ≤ length (element_encoding e)
unfolding element_encoding
length_content_le e = omega (arith, length-append (identifier_octets e.tag) (length_octets (length e.content) ++ e.content), length-append (length_octets (length e.content)) e.content)

AllByRecursion_IsReadable : (es : List Element) → AllByRecursion (λ e. e.tag.value < 2 ^ 32) es → length (flat_map element_encoding es) < 2 ^ 32 → AllByRecursion IsReadable es
AllByRecursion_IsReadable [] h short = tt
AllByRecursion_IsReadable (e ∷ es) h short =
    let both = length-append (element_encoding e) (flat_map element_encoding es) in
    let most = length_content_le e in
    (record { tag = h.0; content = omega (arith, both, most, short) }, AllByRecursion_IsReadable es h.1 (omega (arith, both, short)))

OrderedElements_IsSetContent : (done : List ℕ) (last : Option Tag) → OrderedElements done last → length done < 2 ^ 32 → IsSetContent done
OrderedElements_IsSetContent done last ordered short =
    let h = OrderedElements_Ordered done last ordered in
    record { elements = h.elements; readable = AllByRecursion_IsReadable h.elements h.small (subst (λ (t : List ℕ). length t < 2 ^ 32) h.is short); ordered = h.ordered; is = h.is }

pub writes_sets : {F E : Type 0} (calls : Once F (MutBor SetState × Unit {0}) (Result (Unit {0}) E × (MutBor SetState × Unit {0}))) → WritesSets calls
writes_sets calls f content may short = OrderedElements_IsSetContent content may.left.now.last may.ordered short
