-- Elements: what is at the start of the octets.
use Rattle.std.proofs.Common.{◌≡◌, ℕ, ◌-◌, ◌^◌, ◌<◌, ◌≤◌, List, [], ◌++◌, length, take, drop, Result, Ok, Err, refl, sym, ap, subst, ◌∙◌, inl, inr, ⊎_elim, append_assoc, arith}
use Rattle.std.proofs.lemmas.Bool.{le-ltb, lt-ltb, cases_lt}
use Rattle.std.proofs.lemmas.List.{length-append, length-take-le, take-append-drop, take_at, drop_at}
use Rattle.asn1_core.specs.declared.parser.ParseErrorKind.{ParseErrorKind}
use Rattle.asn1_core.specs.declared.parser.ParseErrorKind.TheVariants.{InvalidLength, ShortData}
use Rattle.asn1_core.specs.declared.tag.Tag.{Tag}
use Rattle.asn1_core.specs.Base256.{IsOctets}
use Rattle.asn1_core.specs.Tag.{identifier_octets, leading_tag, IsLeadingTag}
use Rattle.asn1_core.specs.Length.{length_octets, leading_length, IsLeadingLength}
use Rattle.asn1_core.specs.Element.{Element, element_encoding, IsReadable, IsLeadingElement, leading_content, leading_element}
use Rattle.asn1_core.specs.Lemmas.Tags.{TagFront, leading_tag_identifier_octets, leading_tag_only, IsLeadingTag_leading_tag, identifier_octets_nonempty, identifier_octets_not_nil}
use Rattle.asn1_core.specs.Lemmas.Lengths.{LengthFront, leading_length_length_octets, leading_length_only, IsLeadingLength_leading_length, leading_length_too_big}
use Rattle.asn1_core.specs.Lemmas.Texts.{IsOctets_suffix}

abbrev pub ElementFront : Type 0
ElementFront = Result (Element × List ℕ) ParseErrorKind

-- the four cases: an error of the tag or of the length, too few contents octets, an element
pub leading_element_tag_err : (octets : List ℕ) (kind : ParseErrorKind) → leading_tag octets ≡ Err kind → leading_element octets ≡ Err kind
unfolding leading_element
leading_element_tag_err octets kind e = rw e refl

pub leading_element_length_err : (octets : List ℕ) (tag : Tag) (after : List ℕ) (kind : ParseErrorKind) → leading_tag octets ≡ Ok (tag, after) → leading_length after ≡ Err kind → leading_element octets ≡ Err kind
unfolding leading_element
leading_element_length_err octets tag after kind e f = rw (e, f) refl

pub leading_element_leading_content : (octets : List ℕ) (tag : Tag) (after : List ℕ) (n : ℕ) (rest : List ℕ) → leading_tag octets ≡ Ok (tag, after) → leading_length after ≡ Ok (n, rest) → leading_element octets ≡ leading_content tag n rest
unfolding leading_element
leading_element_leading_content octets tag after n rest e f = rw (e, f) refl

pub leading_element_short : (octets : List ℕ) (tag : Tag) (after : List ℕ) (n : ℕ) (rest : List ℕ) → leading_tag octets ≡ Ok (tag, after) → leading_length after ≡ Ok (n, rest) → length rest < n → leading_element octets ≡ Err (ShortData (n - length rest))
leading_element_short octets tag after n rest e f l = leading_element_leading_content octets tag after n rest e f ∙ rw (lt-ltb (length rest) n l) refl

pub leading_element_found : (octets : List ℕ) (tag : Tag) (after : List ℕ) (n : ℕ) (rest : List ℕ) → leading_tag octets ≡ Ok (tag, after) → leading_length after ≡ Ok (n, rest) → n ≤ length rest → leading_element octets ≡ Ok (record { tag = tag; content = take n rest }, drop n rest)
leading_element_found octets tag after n rest e f l = leading_element_leading_content octets tag after n rest e f ∙ rw (le-ltb (length rest) n l) refl

-- the fields of an element, one after another
pub element_encoding_append : (e : Element) (rest : List ℕ) → element_encoding e ++ rest ≡ identifier_octets e.tag ++ (length_octets (length e.content) ++ (e.content ++ rest))
unfolding element_encoding
element_encoding_append e rest =
    append_assoc (identifier_octets e.tag) (length_octets (length e.content) ++ e.content) rest
    ∙ ap (λ (l : List ℕ). identifier_octets e.tag ++ l) (append_assoc (length_octets (length e.content)) e.content rest)

pub leading_element_element_encoding : (e : Element) (rest : List ℕ) → IsReadable e → leading_element (element_encoding e ++ rest) ≡ Ok (e, rest)
leading_element_element_encoding e rest is =
    let same : take (length e.content) (e.content ++ rest) ≡ e.content = take_at e.content rest (length e.content) refl in
    let left : drop (length e.content) (e.content ++ rest) ≡ rest = drop_at e.content rest (length e.content) refl in
    ap leading_element (element_encoding_append e rest)
    ∙ leading_element_found (identifier_octets e.tag ++ (length_octets (length e.content) ++ (e.content ++ rest))) e.tag (length_octets (length e.content) ++ (e.content ++ rest)) (length e.content) (e.content ++ rest)
    (leading_tag_identifier_octets e.tag (length_octets (length e.content) ++ (e.content ++ rest)) is.tag)
    (leading_length_length_octets (length e.content) (e.content ++ rest) is.content)
    (omega (arith, length-append e.content rest))
    ∙ rw (same, left) refl

-- octets have only one result
pub leading_element_only : (octets : List ℕ) (answer : ElementFront) → IsOctets octets → IsLeadingElement octets answer → leading_element octets ≡ answer
leading_element_only octets (Ok found) is a = rw a.1 (leading_element_element_encoding found.0 found.1 a.0)
leading_element_only octets (Err kind) is (inl a) = leading_element_tag_err octets kind (leading_tag_only octets (Err kind) a)
leading_element_only octets (Err kind) is (inr (inl (tag, after, t, l))) =
    leading_element_length_err octets tag after kind (leading_tag_only octets (Ok (tag, after)) t) (leading_length_only after (Err kind) (IsOctets_suffix (identifier_octets tag) after (subst IsOctets t.1 is)) l)
leading_element_only octets (Err kind) is (inr (inr (tag, after, n, content, t, l, fewer, e))) =
    rw e (leading_element_short octets tag after n content (leading_tag_only octets (Ok (tag, after)) t) (leading_length_only after (Ok (n, content)) (IsOctets_suffix (identifier_octets tag) after (subst IsOctets t.1 is)) l) fewer)

-- all octets have a result
whole : (octets : List ℕ) (tag : Tag) (after : List ℕ) (n : ℕ) (rest : List ℕ) → octets ≡ identifier_octets tag ++ after → after ≡ length_octets n ++ rest → length (take n rest) ≡ n → octets ≡ element_encoding (record { tag = tag; content = take n rest }) ++ drop n rest
whole octets tag after n rest t l size =
    t ∙ ap (λ (s : List ℕ). identifier_octets tag ++ s) (l ∙ ap (λ (s : List ℕ). length_octets n ++ s) (sym (take-append-drop n rest)) ∙ ap (λ (k : ℕ). length_octets k ++ (take n rest ++ drop n rest)) (sym size))
    ∙ sym (element_encoding_append (record { tag = tag; content = take n rest }) (drop n rest))

content_is : (octets : List ℕ) (tag : Tag) (after : List ℕ) (n : ℕ) (rest : List ℕ) → IsLeadingTag octets (Ok (tag, after)) → IsLeadingLength after (Ok (n, rest)) → (answer : ElementFront) × IsLeadingElement octets answer
content_is octets tag after n rest t l = ⊎_elim
    (λ (m : length rest < n). (Err (ShortData (n - length rest)), inr (inr (tag, after, n, rest, t, l, m, refl))))
    (λ (m : n ≤ length rest).
    let size : length (take n rest) ≡ n = length-take-le n rest m in
    let e : Element = record { tag = tag; content = take n rest } in
    (Ok (e, drop n rest), (record { tag = t.0; content = omega (arith, l.0) }, whole octets tag after n rest t.1 l.1 size))) (cases_lt (length rest) n)

after_tag : (octets : List ℕ) (tag : Tag) (after : List ℕ) (r : LengthFront) → IsLeadingTag octets (Ok (tag, after)) → IsLeadingLength after r → (answer : ElementFront) × IsLeadingElement octets answer
after_tag octets tag after (Ok found) t l = content_is octets tag after found.0 found.1 t l
after_tag octets tag after (Err kind) t l = (Err kind, inr (inl (tag, after, t, l)))

with_tag : (octets : List ℕ) (r : TagFront) → IsOctets octets → IsLeadingTag octets r → (answer : ElementFront) × IsLeadingElement octets answer
with_tag octets (Ok found) is t = after_tag octets found.0 found.1 (leading_length found.1) t (IsLeadingLength_leading_length found.1 (IsOctets_suffix (identifier_octets found.0) found.1 (subst IsOctets t.1 is)))
with_tag octets (Err kind) is t = (Err kind, inl t)

pub IsLeadingElement_some : (octets : List ℕ) → IsOctets octets → (answer : ElementFront) × IsLeadingElement octets answer
IsLeadingElement_some octets is = with_tag octets (leading_tag octets) is (IsLeadingTag_leading_tag octets is)

pub IsLeadingElement_leading_element : (octets : List ℕ) → IsOctets octets → IsLeadingElement octets (leading_element octets)
IsLeadingElement_leading_element octets is =
    let found = IsLeadingElement_some octets is in
    subst (λ (a : ElementFront). IsLeadingElement octets a) (sym (leading_element_only octets found.0 is found.1)) found.1

pub leading_element_ok_is : (octets : List ℕ) (e : Element) (rest : List ℕ) → IsOctets octets → leading_element octets ≡ Ok (e, rest) → IsReadable e × (octets ≡ element_encoding e ++ rest)
leading_element_ok_is octets e rest is same = subst (λ (a : ElementFront). IsLeadingElement octets a) same (IsLeadingElement_leading_element octets is)

pub take_of_append : (octets whole rest : List ℕ) → octets ≡ whole ++ rest → take (length octets - length rest) octets ≡ whole
take_of_append octets whole rest e =
    let size : length octets - length rest ≡ length whole = omega (arith, ap length e, length-append whole rest) in
    rw (size, e) (take_at whole rest (length whole) refl)

-- ---- what follows from the encoding of an element

Ok_ne_Err : (f : Element) (rest : List ℕ) → ◌≡◌ {A = ElementFront} (Ok (f, rest)) (Err InvalidLength) → ⊥
Ok_ne_Err f rest same = cc

-- too many contents octets are rejected
pub leading_element_too_long : (e : Element) (rest : List ℕ) → e.tag.value < 2 ^ 32 → 2 ^ 32 ≤ length e.content → leading_element (element_encoding e ++ rest) ≡ Err InvalidLength
leading_element_too_long e rest tag long =
    ap leading_element (element_encoding_append e rest)
    ∙ leading_element_length_err (identifier_octets e.tag ++ (length_octets (length e.content) ++ (e.content ++ rest))) e.tag (length_octets (length e.content) ++ (e.content ++ rest)) InvalidLength
    (leading_tag_identifier_octets e.tag (length_octets (length e.content) ++ (e.content ++ rest)) tag)
    (leading_length_too_big (length e.content) (e.content ++ rest) long)

-- an element with a readable tag and the encoding of a readable element is readable
pub IsReadable_same_encoding : (e f : Element) → e.tag.value < 2 ^ 32 → IsReadable f → element_encoding e ≡ element_encoding f → IsReadable e
IsReadable_same_encoding e f tag is same = ⊎_elim
    (λ (l : length e.content < 2 ^ 32). record { tag = tag; content = l })
    (λ (l : 2 ^ 32 ≤ length e.content).
    let a : leading_element (element_encoding e ++ []) ≡ Err InvalidLength = leading_element_too_long e [] tag l in
    let b : leading_element (element_encoding f ++ []) ≡ Ok (f, []) = leading_element_element_encoding f [] is in
    absurd (Ok_ne_Err f [] (sym b ∙ ap (λ (t : List ℕ). leading_element (t ++ [])) (sym same) ∙ a)))
    (cases_lt (length e.content) (2 ^ 32))

-- the encoding of an element isn't empty
pub element_encoding_not_nil : (e : Element) → element_encoding e ≡ [] → ⊥
unfolding element_encoding
element_encoding_not_nil e none = identifier_octets_not_nil e.tag (length_octets (length e.content) ++ e.content) none

-- the contents octets are shorter than the encoding of their element
pub length_content_lt : (e : Element) → length e.content < length (element_encoding e)
unfolding element_encoding
length_content_lt e =
    let some : 0 < length (identifier_octets e.tag) = identifier_octets_nonempty e.tag in
    omega (arith, length-append (identifier_octets e.tag) (length_octets (length e.content) ++ e.content), length-append (length_octets (length e.content)) e.content)

pub IsOctets_element_content : (e : Element) → IsOctets (element_encoding e) → IsOctets e.content
unfolding element_encoding
IsOctets_element_content e is = IsOctets_suffix (length_octets (length e.content)) e.content (IsOctets_suffix (identifier_octets e.tag) (length_octets (length e.content) ++ e.content) is)
