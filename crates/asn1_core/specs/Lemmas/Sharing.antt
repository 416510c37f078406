-- No two values share an encoding: octets are cut into the encodings of values in one way.
use Rattle.std.proofs.Common.{◌≡◌, ℕ, Bool, true, false, List, [], ◌∷◌, ◌++◌, length, refl, sym, ap, ◌∙◌, ◌⊎◌, inl, inr, arith}
use Rattle.std.specs.List.{AllByRecursion, flat_map}
use Rattle.std.proofs.lemmas.List.{append-nil, length-append}
use Rattle.asn1_core.specs.declared.tag.Tag.{Tag}
use Rattle.asn1_core.specs.Element.{Element, element_encoding}
use Rattle.asn1_core.specs.Reading.{IsOneElement, begins_accepted}
use Rattle.asn1_core.specs.Lemmas.Elements.{length_content_lt}
use Rattle.asn1_core.specs.Lemmas.Cuts.{element_encoding_cut}
use Rattle.asn1_core.specs.Lemmas.Wholes.{begins_accepted_element}

true_not_false : true ≡ false → ⊥
true_not_false e = cc

no_element : (octets rest : List ℕ) → IsOneElement octets → octets ++ rest ≡ [] → ⊥
no_element octets rest one none =
    let same : length octets ≡ length (element_encoding one.element) = ap length one.is in
    let zero : length (octets ++ rest) ≡ 0 = ap length none in
    omega (arith, length_content_lt one.element, length-append octets rest)

-- Nothing or an element, with others behind, is cut in one way, if no accepted tag comes first where there is nothing.
pub cut_once : (accepts : Tag → Bool) (a b rest other : List ℕ) → (a ≡ []) ⊎ IsOneElement a → (b ≡ []) ⊎ IsOneElement b →
    ((e : Element) → a ≡ element_encoding e → accepts e.tag ≡ true) → ((e : Element) → b ≡ element_encoding e → accepts e.tag ≡ true) →
    (a ≡ [] → begins_accepted accepts rest ≡ false) → (b ≡ [] → begins_accepted accepts other ≡ false) →
    a ++ rest ≡ b ++ other → (a ≡ b) × (rest ≡ other)
cut_once accepts a b rest other (inl none) (inl none_b) has has_b free free_b same =
    (none ∙ sym none_b, sym (ap (λ (t : List ℕ). t ++ rest) none) ∙ (same ∙ ap (λ (t : List ℕ). t ++ other) none_b))
cut_once accepts a b rest other (inl none) (inr one) has has_b free free_b same =
    let at : rest ≡ b ++ other = sym (ap (λ (t : List ℕ). t ++ rest) none) ∙ same in
    absurd (true_not_false (sym (begins_accepted_element accepts b other one (has_b one.element one.is)) ∙ (sym (ap (begins_accepted accepts) at) ∙ free none)))
cut_once accepts a b rest other (inr one) (inl none_b) has has_b free free_b same =
    let at : a ++ rest ≡ other = same ∙ ap (λ (t : List ℕ). t ++ other) none_b in
    absurd (true_not_false (sym (begins_accepted_element accepts a rest one (has one.element one.is)) ∙ (ap (begins_accepted accepts) at ∙ free_b none_b)))
cut_once accepts a b rest other (inr one) (inr two) has has_b free free_b same =
    let is : element_encoding one.element ++ rest ≡ element_encoding two.element ++ other = sym (ap (λ (t : List ℕ). t ++ rest) one.is) ∙ (same ∙ ap (λ (t : List ℕ). t ++ other) two.is) in
    let cut = element_encoding_cut one.element two.element rest other one.readable two.readable is in
    (one.is ∙ (ap element_encoding cut.0 ∙ sym two.is), cut.1)

-- items
pub items_one_value : {A : Type 0} (encoding : A → List ℕ) (valid : A → Type 0) → ((m : A) → valid m → IsOneElement (encoding m)) →
    ((m n : A) → valid m → valid n → encoding m ≡ encoding n → m ≡ n) →
    (ms ns : List A) → AllByRecursion valid ms → AllByRecursion valid ns → flat_map encoding ms ≡ flat_map encoding ns → ms ≡ ns
items_one_value encoding valid one law [] [] v w same = refl
items_one_value encoding valid one law [] (n ∷ ns) v w same = absurd (no_element (encoding n) (flat_map encoding ns) (one n w.0) (sym same))
items_one_value encoding valid one law (m ∷ ms) [] v w same = absurd (no_element (encoding m) (flat_map encoding ms) (one m v.0) same)
items_one_value {A} encoding valid one law (m ∷ ms) (n ∷ ns) v w same =
    let a = one m v.0 in
    let b = one n w.0 in
    let cut = cut_once (λ tag. true) (encoding m) (encoding n) (flat_map encoding ms) (flat_map encoding ns) (inr a) (inr b) (λ e is. refl) (λ e is. refl) (λ none. absurd (no_element (encoding m) [] a (append-nil (encoding m) ∙ none))) (λ none. absurd (no_element (encoding n) [] b (append-nil (encoding n) ∙ none))) same in
    let rest = items_one_value encoding valid one law ms ns v.1 w.1 cut.1 in
    ap (λ (x : A). x ∷ ms) (law m n v.0 w.0 cut.0) ∙ ap (λ (xs : List A). n ∷ xs) rest
