-- Headers: whether they are whole, and how long an unfinished header is.
use Rattle.std.proofs.Common.{◌≡◌, ℕ, ◌+◌, ◌-◌, ◌^◌, ◌<◌, ◌≤◌, List, ◌++◌, length, take, Ok, Err, refl, sym, ap, subst, ◌∙◌, inl, inr, ⊎_elim, arith}
use Rattle.std.proofs.lemmas.Bool.{cases_lt}
use Rattle.std.proofs.lemmas.List.{length-append, take_at}
use Rattle.asn1.specs.declared.ParseErrorKind.{ParseErrorKind}
use Rattle.asn1.specs.declared.ParseErrorKind.TheVariants.{InvalidTag, InvalidLength, ShortData}
use Rattle.asn1.specs.declared.Tag.{Tag}
use Rattle.asn1.specs.Base256.{IsOctets}
use Rattle.asn1.specs.Tag.{identifier_octets, tag_number, leading_tag, IsLeadingTag}
use Rattle.asn1.specs.Length.{length_octets, leading_length, IsLeadingLength}
use Rattle.asn1.specs.Element.{Element, leading_element}
use Rattle.asn1.specs.Laws.{IsShort}
use Rattle.asn1.specs.Lemmas.Numbers.{length_number_octets_le_5}
use Rattle.asn1.specs.Lemmas.Tags.{TagFront, IsLeadingTag_leading_tag, identifier_octets_low, identifier_octets_long}
use Rattle.asn1.specs.Lemmas.Lengths.{LengthFront, IsLeadingLength_leading_length, length_octets_low, length_octets_high}
use Rattle.asn1.specs.Lemmas.Texts.{IsOctets_suffix}
use Rattle.asn1.specs.Lemmas.Elements.{leading_element_tag_err, leading_element_length_err, leading_element_short, leading_element_found}
use Rattle.dercheck.specs.Frames.{further, HoldsLength, IsSplit, Needs, IsOpen, IsWhole}

-- the first length octet says how many there are
pub further_length_octets : (n : ℕ) (behind : List ℕ) → further (length_octets n ++ behind) + 1 ≡ length (length_octets n)
further_length_octets n behind = ⊎_elim
    (λ (l : n < 128). rw (length_octets_low n l) (omega arith))
    (λ (l : 128 ≤ n). rw (length_octets_high n l) (omega arith)) (cases_lt n 128)

length_identifier_octets_le_6 : (tag : Tag) → tag_number tag < 2 ^ 32 → length (identifier_octets tag) ≤ 6
length_identifier_octets_le_6 tag small = ⊎_elim
    (λ (l : tag_number tag < 31). rw (identifier_octets_low tag (omega arith)) (omega arith))
    (λ (l : 31 ≤ tag_number tag). rw (identifier_octets_long tag l) (omega (arith, length_number_octets_le_5 (tag_number tag) small))) (cases_lt (tag_number tag) 31)

pub not_IsShort_Err : (kind : ParseErrorKind) → ((x : ℕ) → kind ≡ ShortData x → ⊥) → ¬ IsShort {A = Element × List ℕ} (Err kind)
not_IsShort_Err (ShortData x) apart short = apart x refl
not_IsShort_Err _ apart short = short

needs_kind : (octets : List ℕ) (needed : ℕ) (kind : ParseErrorKind) → Needs octets needed → leading_element octets ≡ Err kind → kind ≡ ShortData needed
needs_kind octets needed kind (inl e) f = cc
needs_kind octets needed kind (inr (found, e, zero)) f = absurd cc

needs_count : (octets : List ℕ) (needed k : ℕ) → Needs octets needed → leading_element octets ≡ Err (ShortData k) → needed ≡ k
needs_count octets needed k needs f = let e = needs_kind octets needed (ShortData k) needs f in cc

needs_none : (octets : List ℕ) (needed : ℕ) (found : Element × List ℕ) → Needs octets needed → leading_element octets ≡ Ok found → needed ≡ 0
needs_none octets needed found (inl e) f = absurd cc
needs_none octets needed found (inr (x, e, zero)) f = zero

-- the tag that octets begin with, and the octets after it
pub leading_tag_ok_is : (octets : List ℕ) (tag : Tag) (after : List ℕ) → IsOctets octets → leading_tag octets ≡ Ok (tag, after) → (tag_number tag < 2 ^ 32) × (octets ≡ identifier_octets tag ++ after)
leading_tag_ok_is octets tag after is found = subst (λ (r : TagFront). IsLeadingTag octets r) found (IsLeadingTag_leading_tag octets is)

IsOctets_after_tag : (octets : List ℕ) (tag : Tag) (after : List ℕ) → IsOctets octets → octets ≡ identifier_octets tag ++ after → IsOctets after
IsOctets_after_tag octets tag after is e = IsOctets_suffix (identifier_octets tag) after (subst IsOctets e is)

-- ---- an unfinished header

open_length : (octets : List ℕ) (needed : ℕ) (tag : Tag) (after : List ℕ) (r : LengthFront) → Needs octets needed
    → leading_tag octets ≡ Ok (tag, after) → (tag_number tag < 2 ^ 32) × (octets ≡ identifier_octets tag ++ after) → ¬ HoldsLength after
    → leading_length after ≡ r → IsLeadingLength after r → IsOpen octets needed
open_length octets needed tag after (Ok (n, behind)) needs found parts none e is =
    absurd (none (rw is.1 (omega (arith, further_length_octets n behind, length-append (length_octets n) behind))))
open_length octets needed tag after (Err InvalidLength) needs found parts none e is =
    let same = needs_kind octets needed InvalidLength needs (leading_element_length_err octets tag after InvalidLength found e) in absurd cc
open_length octets needed tag after (Err (ShortData k)) needs found parts none e (inl (nothing, one)) =
    let short = leading_element_length_err octets tag after (ShortData k) found e in
    let same : needed ≡ k = needs_count octets needed k needs short in
    record {
      short = rw same short;
      few = omega (arith, length_identifier_octets_le_6 tag parts.0, ap length parts.1, length-append (identifier_octets tag) after, ap length nothing);
      some = omega arith;
    }
open_length octets needed tag after (Err (ShortData k)) needs found parts none e (inr (some, one, few, text)) =
    let short = leading_element_length_err octets tag after (ShortData k) found e in
    let same : needed ≡ k = needs_count octets needed k needs short in
    record {
      short = rw same short;
      few = omega (arith, length_identifier_octets_le_6 tag parts.0, ap length parts.1, length-append (identifier_octets tag) after, ap length text);
      some = omega arith;
    }
open_length octets needed tag after (Err _) needs found parts none e is = absurd is

open_tag : (octets : List ℕ) (needed : ℕ) (r : TagFront) → IsOctets octets → Needs octets needed
    → ((tag : Tag) → (after : List ℕ) → leading_tag octets ≡ Ok (tag, after) → ¬ HoldsLength after)
    → leading_tag octets ≡ r → IsLeadingTag octets r → IsOpen octets needed
open_tag octets needed (Ok (tag, after)) text needs none e is =
    open_length octets needed tag after (leading_length after) needs e is (none tag after e) refl (IsLeadingLength_leading_length after (IsOctets_after_tag octets tag after text is.1))
open_tag octets needed (Err InvalidTag) text needs none e is =
    let same = needs_kind octets needed InvalidTag needs (leading_element_tag_err octets InvalidTag e) in absurd cc
open_tag octets needed (Err (ShortData k)) text needs none e (inl (nothing, one)) =
    let short = leading_element_tag_err octets (ShortData k) e in
    let same : needed ≡ k = needs_count octets needed k needs short in
    record { short = rw same short; few = omega (arith, ap length nothing); some = omega arith }
open_tag octets needed (Err (ShortData k)) text needs none e (inr (after, (first, high, whole), (open_octets, no_fault, one))) =
    let short = leading_element_tag_err octets (ShortData k) e in
    let same : needed ≡ k = needs_count octets needed k needs short in
    let few : length after < 19 = ⊎_elim (λ (l : length after < 19). l) (λ (l : 19 ≤ length after). absurd (no_fault (inl (open_octets, inr l)))) (cases_lt (length after) 19) in
    record { short = rw same short; few = omega (arith, ap length whole); some = omega arith }
open_tag octets needed (Err _) text needs none e is = absurd is

pub header_open : (octets : List ℕ) (needed : ℕ) → IsOctets octets → Needs octets needed
    → ((tag : Tag) → (after : List ℕ) → leading_tag octets ≡ Ok (tag, after) → ¬ HoldsLength after) → IsOpen octets needed
header_open octets needed text needs none = open_tag octets needed (leading_tag octets) text needs none refl (IsLeadingTag_leading_tag octets text)

-- ---- a whole header

missing_of : (octets : List ℕ) (needed : ℕ) (tag : Tag) (after : List ℕ) (n : ℕ) (behind : List ℕ) → Needs octets needed
    → leading_tag octets ≡ Ok (tag, after) → leading_length after ≡ Ok (n, behind) → needed ≡ n - length behind
missing_of octets needed tag after n behind needs found e = ⊎_elim
    (λ (l : length behind < n). needs_count octets needed (n - length behind) needs (leading_element_short octets tag after n behind found e l))
    (λ (l : n ≤ length behind). omega (arith, needs_none octets needed _ needs (leading_element_found octets tag after n behind found e l))) (cases_lt (length behind) n)

whole_length : (octets : List ℕ) (needed tag_count count : ℕ) (s : IsSplit octets tag_count count) (r : LengthFront) → Needs octets needed
    → (tag_number s.tag < 2 ^ 32) × (octets ≡ identifier_octets s.tag ++ s.after)
    → leading_length s.after ≡ r → IsLeadingLength s.after r → IsWhole octets tag_count (needed + count) needed
whole_length octets needed tag_count count s (Ok (n, behind)) needs parts e is =
    let sizes = length-append (length_octets n) behind in
    let after_count = ap length is.1 in
    let tag_size : tag_count ≡ length (identifier_octets s.tag) = omega (arith, ap length parts.1, length-append (identifier_octets s.tag) s.after, s.tag_octets) in
    let first : further s.after ≡ further (length_octets n ++ behind) = ap further is.1 in
    let size : count ≡ length behind = omega (arith, further_length_octets n behind, s.content_octets, first) in
    record {
      tag = s.tag;
      n = n;
      content = behind;
      begun = record { tag_small = parts.0; length_small = is.0; encoded = parts.1 ∙ ap (λ (l : List ℕ). identifier_octets s.tag ++ l) is.1 };
      tag_octets = ap (take tag_count) parts.1 ∙ take_at (identifier_octets s.tag) s.after tag_count (sym tag_size);
      few = omega (arith, length_identifier_octets_le_6 s.tag parts.0);
      within = omega (arith, s.tag_octets);
      missing = missing_of octets needed s.tag s.after n behind needs s.found e;
      all = omega arith;
    }
whole_length octets needed tag_count count s (Err InvalidLength) needs parts e is =
    let same = needs_kind octets needed InvalidLength needs (leading_element_length_err octets s.tag s.after InvalidLength s.found e) in absurd cc
whole_length octets needed tag_count count s (Err (ShortData k)) needs parts e (inl (nothing, one)) =
    absurd (omega (arith, s.holds, ap length nothing))
whole_length octets needed tag_count count s (Err (ShortData k)) needs parts e (inr (some, one, few, text)) =
    let first = ap further text in
    absurd (omega (arith, s.holds, ap length text, first))
whole_length octets needed tag_count count s (Err _) needs parts e is = absurd is

pub header_whole : (octets : List ℕ) (needed tag_count count : ℕ) → IsOctets octets → Needs octets needed → IsSplit octets tag_count count → IsWhole octets tag_count (needed + count) needed
header_whole octets needed tag_count count text needs s =
    let parts = leading_tag_ok_is octets s.tag s.after text s.found in
    whole_length octets needed tag_count count s (leading_length s.after) needs parts refl (IsLeadingLength_leading_length s.after (IsOctets_after_tag octets s.tag s.after text parts.1))
