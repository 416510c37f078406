-- Results that stay the same for longer inputs, and what follows.
use Rattle.std.proofs.Common.{◌≡◌, ℕ, ◌+◌, ◌-◌, ◌^◌, ◌<◌, ◌≤◌, ◌⊎◌, List, [], ◌∷◌, ◌++◌, length, Ok, Err, refl, sym, ap, subst, ◌∙◌, inl, inr, ⊎_elim, append_assoc, arith}
use Rattle.std.specs.List.{flat_map}
use Rattle.std.proofs.lemmas.List.{append-nil, length-append, nil_from_length}
use Rattle.asn1_core.specs.declared.parser.ParseErrorKind.TheVariants.{InvalidValue, InvalidTag, InvalidLength, ShortData}
use Rattle.asn1_core.specs.declared.tag.Tag.{Tag}
use Rattle.asn1_core.specs.Base256.{IsOctets}
use Rattle.std.proofs.lemmas.Bool.{cases_lt}
use Rattle.asn1_core.specs.Base128.{IsLeadingNumber, IsFinished, number_octets}
use Rattle.asn1_core.specs.Tag.{identifier_octets, first_octet, BeginsLongTag, IsLeadingTag}
use Rattle.asn1_core.specs.Length.{length_octets, IsLeadingLength}
use Rattle.asn1_core.specs.Element.{Element, element_encoding, IsReadable, IsLeadingElement, leading_element}
use Rattle.asn1_core.specs.Laws.{IsShort, with_more, ResultsStay, FewerAreShort, ProperPrefixesAreShort, ElementsAreApart, JoinsHaveOneCutting}
use Rattle.asn1_core.specs.Lemmas.Texts.{IsOctets_prefix, IsOctets_append}
use Rattle.asn1_core.specs.Lemmas.Lengths.{length_octets_low, length_octets_high, length_digits_of_le_4, IsShortest_digits_of}
use Rattle.asn1_core.specs.Lemmas.Tags.{leading_tag_empty, class_number_lt, bit_le, identifier_octets_low, identifier_octets_long}
use Rattle.asn1_core.specs.Lemmas.NumberTexts.{AreNumberOctets_number_octets}
use Rattle.asn1_core.specs.Lemmas.Elements.{ElementFront, leading_element_element_encoding, leading_element_only, IsLeadingElement_leading_element, leading_element_tag_err}

-- octets in two parts, with more octets after them
append_append_more : (octets t rest more : List ℕ) → octets ≡ t ++ rest → octets ++ more ≡ t ++ (rest ++ more)
append_append_more octets t rest more e = ap (λ (s : List ℕ). s ++ more) e ∙ append_assoc t rest more

IsLeadingNumber_ok_append : (octets more : List ℕ) (n : ℕ) (rest : List ℕ) → IsLeadingNumber octets (Ok (n, rest)) → IsLeadingNumber (octets ++ more) (Ok (n, rest ++ more))
IsLeadingNumber_ok_append octets more n rest (t, is, e) = (t, is, append_append_more octets t rest more e)

IsLeadingNumber_err_append : (octets more : List ℕ) → IsLeadingNumber octets (Err InvalidValue) → IsLeadingNumber (octets ++ more) (Err InvalidValue)
IsLeadingNumber_err_append octets more (t, rest, bad, e) = (t, rest ++ more, bad, append_append_more octets t rest more e)

IsLeadingTag_ok_append : (octets more : List ℕ) (tag : Tag) (rest : List ℕ) → IsLeadingTag octets (Ok (tag, rest)) → IsLeadingTag (octets ++ more) (Ok (tag, rest ++ more))
IsLeadingTag_ok_append octets more tag rest is = (is.0, append_append_more octets (identifier_octets tag) rest more is.1)

BeginsLongTag_append : (octets after more : List ℕ) → BeginsLongTag octets after → BeginsLongTag (octets ++ more) (after ++ more)
BeginsLongTag_append octets after more (first, high, e) = (first, high, ap (λ (s : List ℕ). s ++ more) e)

IsLeadingTag_err_append : (octets more : List ℕ) → IsLeadingTag octets (Err InvalidTag) → IsLeadingTag (octets ++ more) (Err InvalidTag)
IsLeadingTag_err_append octets more (after, long, inl bad) = (after ++ more, BeginsLongTag_append octets after more long, inl (IsLeadingNumber_err_append after more bad))
IsLeadingTag_err_append octets more (after, long, inr (n, rest, found, range)) =
    (after ++ more, BeginsLongTag_append octets after more long, inr (n, rest ++ more, IsLeadingNumber_ok_append after more n rest found, range))

IsLeadingLength_ok_append : (octets more : List ℕ) (n : ℕ) (rest : List ℕ) → IsLeadingLength octets (Ok (n, rest)) → IsLeadingLength (octets ++ more) (Ok (n, rest ++ more))
IsLeadingLength_ok_append octets more n rest is = (is.0, append_append_more octets (length_octets n) rest more is.1)

IsLeadingLength_err_append : (octets more : List ℕ) → IsLeadingLength octets (Err InvalidLength) → IsLeadingLength (octets ++ more) (Err InvalidLength)
IsLeadingLength_err_append octets more (inl (first, rest, bad, e)) = inl (first, rest ++ more, bad, ap (λ (s : List ℕ). s ++ more) e)
IsLeadingLength_err_append octets more (inr (t, rest, some, few, apart, e)) = inr (t, rest ++ more, some, few, apart, append_append_more octets ((128 + length t) ∷ t) rest more e)

IsLeadingElement_append : (octets more : List ℕ) (a : ElementFront) → IsLeadingElement octets a → ¬ IsShort a → IsLeadingElement (octets ++ more) (with_more a more)
IsLeadingElement_append octets more (Ok found) is long = (is.0, append_append_more octets (element_encoding found.0) found.1 more is.1)
IsLeadingElement_append octets more (Err (ShortData n)) is long = absurd (long tt)
IsLeadingElement_append octets more (Err InvalidTag) (inl t) long = inl (IsLeadingTag_err_append octets more t)
IsLeadingElement_append octets more (Err InvalidLength) (inr (inl (tag, after, t, l))) long = inr (inl (tag, after ++ more, IsLeadingTag_ok_append octets more tag after t, IsLeadingLength_err_append after more l))
IsLeadingElement_append octets more (Err _) (inl t) long = absurd t
IsLeadingElement_append octets more (Err _) (inr (inl (tag, after, t, l))) long = absurd l
IsLeadingElement_append octets more (Err _) (inr (inr (tag, after, n, content, t, l, fewer, e))) long = absurd cc

pub answers_stand : ResultsStay
answers_stand octets more is long =
    leading_element_only (octets ++ more) (with_more (leading_element octets) more) is (IsLeadingElement_append octets more (leading_element octets) (IsLeadingElement_leading_element octets (IsOctets_prefix octets more is)) long)

-- ---- fewer octets than were needed

still : (octets more : List ℕ) (needed : ℕ) → needed ≡ 1 → length more < needed → IsLeadingElement octets (Err (ShortData needed)) → (m : ℕ) × IsLeadingElement (octets ++ more) (Err (ShortData m))
still octets more needed one fewer is =
    let nothing : more ≡ [] = nil_from_length more (omega arith) in
    (needed, rw (nothing, append-nil octets) is)

more_length : (octets more : List ℕ) (needed : ℕ) → length more < needed → (tag : Tag) (after t : List ℕ) → IsLeadingTag octets (Ok (tag, after)) → length t + needed ≤ 4 → after ≡ (128 + (length t + needed)) ∷ t → (m : ℕ) × IsLeadingElement (octets ++ more) (Err (ShortData m))
more_length octets more needed fewer tag after t is few e =
    let m : ℕ = needed - length more in
    let size : length (t ++ more) ≡ length t + length more = length-append t more in
    let count : length t + needed ≡ length (t ++ more) + m = omega arith in
    let head : after ++ more ≡ (128 + (length (t ++ more) + m)) ∷ (t ++ more) = ap (λ (s : List ℕ). s ++ more) e ∙ ap (λ (k : ℕ). (128 + k) ∷ (t ++ more)) count in
    (m, inr (inl (tag, after ++ more, IsLeadingTag_ok_append octets more tag after is, inr (t ++ more, omega arith, omega arith, head))))

more_content : (octets more : List ℕ) (needed : ℕ) → length more < needed → (tag : Tag) (after : List ℕ) (n : ℕ) (content : List ℕ) → IsLeadingTag octets (Ok (tag, after)) → IsLeadingLength after (Ok (n, content)) → needed ≡ n - length content → (m : ℕ) × IsLeadingElement (octets ++ more) (Err (ShortData m))
more_content octets more needed fewer tag after n content t l e =
    let size : length (content ++ more) ≡ length content + length more = length-append content more in
    (n - length (content ++ more), inr (inr (tag, after ++ more, n, content ++ more, IsLeadingTag_ok_append octets more tag after t, IsLeadingLength_ok_append after more n content l, omega arith, refl)))

ShortData_injective : {a b : ℕ} → ShortData a ≡ ShortData b → a ≡ b
ShortData_injective e = cc

IsLeadingElement_short_append : (text more : List ℕ) (needed : ℕ) → length more < needed → IsLeadingElement text (Err (ShortData needed)) → (m : ℕ) × IsLeadingElement (text ++ more) (Err (ShortData m))
IsLeadingElement_short_append text more needed fewer (inl (inl (e, one))) = still text more needed one fewer (inl (inl (e, one)))
IsLeadingElement_short_append text more needed fewer (inl (inr (after, long, short))) = still text more needed short.2 fewer (inl (inr (after, long, short)))
IsLeadingElement_short_append text more needed fewer (inr (inl (tag, after, t, inl (e, one)))) = still text more needed one fewer (inr (inl (tag, after, t, inl (e, one))))
IsLeadingElement_short_append text more needed fewer (inr (inl (tag, after, t, inr (octets, some, few, e)))) = more_length text more needed fewer tag after octets t few e
IsLeadingElement_short_append text more needed fewer (inr (inr (tag, after, n, content, t, l, less, e))) = more_content text more needed fewer tag after n content t l (ShortData_injective e)

pub fewer_are_short : FewerAreShort
fewer_are_short octets more needed is short fewer =
    let m = IsLeadingElement_short_append octets more needed fewer (subst (λ (a : ElementFront). IsLeadingElement octets a) short (IsLeadingElement_leading_element octets (IsOctets_prefix octets more is))) in
    rw (leading_element_only (octets ++ more) (Err (ShortData m.0)) is m.1) tt

-- ---- no element is a proper prefix of another

Ok_pair_injective : {e f : Element} {r s : List ℕ} → ◌≡◌ {A = ElementFront} (Ok (e, r)) (Ok (f, s)) → (e ≡ f) × (r ≡ s)
Ok_pair_injective {e} {f} {r} {s} same =
    let pair : ◌≡◌ {A = Element × List ℕ} (e, r) (f, s) = cc in
    (ap (λ (p : Element × List ℕ). p.0) pair, ap (λ (p : Element × List ℕ). p.1) pair)

pub elements_are_apart : ElementsAreApart
elements_are_apart e f rest other re rf same =
    Ok_pair_injective (sym (leading_element_element_encoding e rest re) ∙ ap leading_element same ∙ leading_element_element_encoding f other rf)

short_or_not : (a : ElementFront) → IsShort a ⊎ ¬ IsShort a
short_or_not (Ok x) = inr (λ h. h)
short_or_not (Err (ShortData n)) = inl tt
short_or_not (Err _) = inr (λ h. h)

not_whole : (a : ElementFront) (more : List ℕ) (e : Element) → 0 < length more → with_more a more ≡ Ok (e, []) → ⊥
not_whole (Ok found) more e some same =
    let rest = Ok_pair_injective same in
    omega (arith, ap length rest.1, length-append found.1 more)
not_whole (Err kind) more e some same = cc

pub IsFinished_IsOctets : (t : List ℕ) → IsFinished t → IsOctets t
IsFinished_IsOctets [] f = absurd f
IsFinished_IsOctets (x ∷ []) f = (omega arith, tt)
IsFinished_IsOctets (x ∷ y ∷ ys) f = (f.1, IsFinished_IsOctets (y ∷ ys) f.2)

first_octet_lt : (tag : Tag) (low : ℕ) → low < 32 → first_octet tag low < 256
first_octet_lt tag low small = omega (arith, class_number_lt tag.class, bit_le tag.constructed)

pub IsOctets_identifier_octets : (tag : Tag) → tag.value < 2 ^ 32 → IsOctets (identifier_octets tag)
IsOctets_identifier_octets tag small = ⊎_elim
    (λ (l : tag.value < 31). rw (identifier_octets_low tag (omega arith)) (first_octet_lt tag tag.value (omega arith), tt))
    (λ (l : 31 ≤ tag.value). rw (identifier_octets_long tag l) (first_octet_lt tag 31 (omega arith), IsFinished_IsOctets (number_octets tag.value) (AreNumberOctets_number_octets tag.value (omega arith)).finished)) (cases_lt tag.value 31)

pub IsOctets_length_octets : (n : ℕ) → n < 2 ^ 32 → IsOctets (length_octets n)
IsOctets_length_octets n small = ⊎_elim
    (λ (l : n < 128). rw (length_octets_low n l) (omega arith, tt))
    (λ (l : 128 ≤ n). rw (length_octets_high n l) (omega (arith, length_digits_of_le_4 n small), (IsShortest_digits_of n).encoding)) (cases_lt n 128)

pub IsOctets_element_encoding : (e : Element) → IsReadable e → IsOctets e.content → IsOctets (element_encoding e)
unfolding element_encoding
IsOctets_element_encoding e is content = IsOctets_append (identifier_octets e.tag) (length_octets (length e.content) ++ e.content) (IsOctets_identifier_octets e.tag is.tag) (IsOctets_append (length_octets (length e.content)) e.content (IsOctets_length_octets (length e.content) is.content) content)

pub proper_fronts_are_short : ProperPrefixesAreShort
proper_fronts_are_short e octets more readable content same some = ⊎_elim
    (λ (short : IsShort (leading_element octets)). short)
    (λ (long : ¬ IsShort (leading_element octets)).
    let is : IsOctets (octets ++ more) = subst IsOctets same (IsOctets_element_encoding e readable content) in
    let whole : leading_element (octets ++ more) ≡ Ok (e, []) = ap leading_element (sym same ∙ sym (append-nil (element_encoding e))) ∙ leading_element_element_encoding e [] readable in
    absurd (not_whole (leading_element octets) more e some (sym (answers_stand octets more is long) ∙ whole)))
    (short_or_not (leading_element octets))

-- ---- a concatenation of elements is cut in one way

nothing_found : (e : Element) (rest : List ℕ) → ◌≡◌ {A = ElementFront} (Ok (e, rest)) (Err (ShortData 1)) → ⊥
nothing_found e rest same = cc

leading_element_nil_not_ok : (e : Element) (rest : List ℕ) → ◌≡◌ {A = ElementFront} (Ok (e, rest)) (leading_element []) → ⊥
leading_element_nil_not_ok e rest same = nothing_found e rest (same ∙ leading_element_tag_err [] (ShortData 1) (leading_tag_empty [] refl))

element_encoding_append_not_nil : (e : Element) (rest : List ℕ) → IsReadable e → element_encoding e ++ rest ≡ [] → ⊥
element_encoding_append_not_nil e rest is same = leading_element_nil_not_ok e rest (sym (leading_element_element_encoding e rest is) ∙ ap leading_element same)

pub joins_have_one_cutting : JoinsHaveOneCutting
joins_have_one_cutting [] [] a b same = refl
joins_have_one_cutting [] (f ∷ fs) a b same = absurd (element_encoding_append_not_nil f (flat_map element_encoding fs) b.0 (sym same))
joins_have_one_cutting (e ∷ es) [] a b same = absurd (element_encoding_append_not_nil e (flat_map element_encoding es) a.0 same)
joins_have_one_cutting (e ∷ es) (f ∷ fs) a b same =
    let parts = elements_are_apart e f (flat_map element_encoding es) (flat_map element_encoding fs) a.0 b.0 same in
    let rest = joins_have_one_cutting es fs a.1 b.1 parts.1 in
    ap (λ (x : Element). x ∷ es) parts.0 ∙ ap (λ (xs : List Element). f ∷ xs) rest
