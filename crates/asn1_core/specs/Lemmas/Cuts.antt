-- Elements are cut off in one way, however long their contents octets are.
use Rattle.std.proofs.Common.{◌≡◌, ℕ, ◌<◌, ◌^◌, List, [], ◌∷◌, ◌++◌, length, Ok, Result, refl, sym, ap, ◌∙◌, inl, inr, arith}
use Rattle.std.proofs.lemmas.Bool.{cases_lt}
use Rattle.std.proofs.lemmas.List.{append_cancel_left}
use Rattle.std.specs.Int.Digits.{digits_of}
use Rattle.asn1_core.specs.declared.parser.ParseErrorKind.{ParseErrorKind}
use Rattle.asn1_core.specs.declared.tag.Tag.{Tag}
use Rattle.asn1_core.specs.Tag.{identifier_octets, leading_tag}
use Rattle.asn1_core.specs.Length.{length_octets}
use Rattle.asn1_core.specs.Element.{Element, element, element_encoding}
use Rattle.asn1_core.specs.Lemmas.Facts.{cons_injective}
use Rattle.asn1_core.specs.Lemmas.Tags.{leading_tag_identifier_octets}
use Rattle.asn1_core.specs.Lemmas.Lengths.{length_octets_low, length_octets_high, number_of_digits_of}
use Rattle.asn1_core.specs.Base256.{number}
use Rattle.asn1_core.specs.Lemmas.Elements.{element_encoding_append}

pub append_cut : (a b s t : List ℕ) → length a ≡ length b → a ++ s ≡ b ++ t → (a ≡ b) × (s ≡ t)
append_cut [] [] s t same e = (refl, e)
append_cut [] (y ∷ ys) s t same e = absurd cc
append_cut (x ∷ xs) [] s t same e = absurd cc
append_cut (x ∷ xs) (y ∷ ys) s t same e =
    let first = cons_injective x y (xs ++ s) (ys ++ t) e in
    let rest = append_cut xs ys s t (omega (arith, same)) first.1 in
    (ap (λ (z : ℕ). z ∷ xs) first.0 ∙ ap (λ (zs : List ℕ). y ∷ zs) rest.0, rest.1)

-- length octets, and what is behind them
pub length_octets_cut : (m n : ℕ) (s t : List ℕ) → length_octets m ++ s ≡ length_octets n ++ t → (m ≡ n) × (s ≡ t)
length_octets_cut m n s t e =
    elim (cases_lt m 128) [
      | inl low ↦ elim (cases_lt n 128) [
        | inl low2 ↦ cons_injective _ _ _ _ (rw (length_octets_low m low, length_octets_low n low2) at e)
        | inr high2 ↦
            let h = cons_injective _ _ _ _ (rw (length_octets_low m low, length_octets_high n high2) at e) in
            absurd (omega (arith, h.0))
      ]
      | inr high ↦ elim (cases_lt n 128) [
        | inl low2 ↦
            let h = cons_injective _ _ _ _ (rw (length_octets_high m high, length_octets_low n low2) at e) in
            absurd (omega (arith, h.0))
        | inr high2 ↦
            let h = cons_injective _ _ _ _ (rw (length_octets_high m high, length_octets_high n high2) at e) in
            let cut = append_cut (digits_of 256 m) (digits_of 256 n) s t (omega (arith, h.0)) h.1 in
            (sym (number_of_digits_of m) ∙ (ap number cut.0 ∙ number_of_digits_of n), cut.1)
      ]
    ]

same_tag : (t u : Tag) (r s : List ℕ) → ◌≡◌ {A = Result (Tag × List ℕ) ParseErrorKind} (Ok (t, r)) (Ok (u, s)) → (t ≡ u) × (r ≡ s)
same_tag t u r s same =
    let pair : ◌≡◌ {A = Tag × List ℕ} (t, r) (u, s) = cc in
    (ap (λ (p : Tag × List ℕ). p.0) pair, ap (λ (p : Tag × List ℕ). p.1) pair)

-- an element with a tag that is read, and what is behind it
pub element_encoding_cut : (e f : Element) (rest other : List ℕ) → e.tag.value < 2 ^ 32 → f.tag.value < 2 ^ 32
    → element_encoding e ++ rest ≡ element_encoding f ++ other → (e ≡ f) × (rest ≡ other)
element_encoding_cut e f rest other small small_f same =
    let behind = length_octets (length e.content) ++ (e.content ++ rest) in
    let behind_f = length_octets (length f.content) ++ (f.content ++ other) in
    let is : identifier_octets e.tag ++ behind ≡ identifier_octets f.tag ++ behind_f = sym (element_encoding_append e rest) ∙ (same ∙ element_encoding_append f other) in
    let tags = same_tag e.tag f.tag behind behind_f (sym (leading_tag_identifier_octets e.tag behind small) ∙ (ap leading_tag is ∙ leading_tag_identifier_octets f.tag behind_f small_f)) in
    let lengths = length_octets_cut (length e.content) (length f.content) (e.content ++ rest) (f.content ++ other) tags.1 in
    let contents = append_cut e.content f.content rest other lengths.0 lengths.1 in
    (ap (λ (t : Tag). element t e.content) tags.0 ∙ ap (λ (c : List ℕ). element f.tag c) contents.0, contents.1)

-- elements with the same tag and the same encoding have the same contents octets
pub element_encoding_content_injective : (tag : Tag) (c d : List ℕ) → element_encoding (element tag c) ≡ element_encoding (element tag d) → c ≡ d
unfolding element_encoding
element_encoding_content_injective tag c d e = (length_octets_cut (length c) (length d) c d (append_cancel_left (identifier_octets tag) _ _ e)).1
