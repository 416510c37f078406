-- What more octets make of the octets that were pending.
use Rattle.std.proofs.Common.{◌≡◌, ℕ, ◌+◌, ◌-◌, ◌<◌, ◌≤◌, List, [], ◌∷◌, ◌++◌, length, take, drop, set, Ok, Err, refl, sym, ap, ◌∙◌, ⊎_elim, append_assoc, arith}
use Rattle.std.proofs.lemmas.Bool.{cases_lt}
use Rattle.std.proofs.lemmas.List.{append-nil, length-take-le, length-drop, take-append-drop, same_from_push, take_more_set}
use Rattle.asn1.specs.declared.ParseErrorKind.TheVariants.{ShortData}
use Rattle.asn1.specs.declared.Tag.{Tag}
use Rattle.asn1.specs.Tag.{identifier_octets}
use Rattle.asn1.specs.Length.{length_octets}
use Rattle.asn1.specs.Element.{Element, element_encoding, IsReadable, leading_element}
use Rattle.asn1.specs.Lemmas.Tags.{leading_tag_identifier_octets}
use Rattle.asn1.specs.Lemmas.Lengths.{leading_length_length_octets}
use Rattle.asn1.specs.Lemmas.Elements.{leading_element_element_encoding, leading_element_short, element_encoding_append}
use Rattle.dercheck.specs.Frames.{IsBegun}
use Rattle.asn1.specs.Lemmas.Digits.{cons_as_push}

-- if octets are too short, one octet more leaves nothing after an element
remaining_nil : (octets : List ℕ) (octet needed : ℕ) (e : Element) (rest : List ℕ) → IsReadable e → leading_element octets ≡ Err (ShortData needed) → octets ++ octet ∷ [] ≡ element_encoding e ++ rest → rest ≡ []
remaining_nil octets octet needed e [] readable short same = refl
remaining_nil octets octet needed e (x ∷ xs) readable short same =
    let parts = cons_as_push x xs in
    let joined : octets ++ octet ∷ [] ≡ (element_encoding e ++ parts.0) ++ parts.1 ∷ [] = same ∙ ap (λ (l : List ℕ). element_encoding e ++ l) parts.2 ∙ sym (append_assoc (element_encoding e) parts.0 (parts.1 ∷ [])) in
    let before = same_from_push octets (element_encoding e ++ parts.0) octet parts.1 joined in
    let found : leading_element octets ≡ Ok (e, parts.0) = ap leading_element before.0 ∙ leading_element_element_encoding e parts.0 readable in
    absurd cc

abbrev pub element_with : Tag → List ℕ → Element
element_with tag content = record { tag = tag; content = content }

-- a whole header and contents octets, as an element and the octets after it
begun_element : (octets : List ℕ) (tag : Tag) (n : ℕ) (content : List ℕ) → IsBegun octets tag n content → n ≤ length content
    → IsReadable (element_with tag (take n content)) × (octets ≡ element_encoding (element_with tag (take n content)) ++ drop n content)
begun_element octets tag n content begun all =
    let e : Element = element_with tag (take n content) in
    let size : length (take n content) ≡ n = length-take-le n content all in (
      record { tag = begun.tag_small; content = omega (arith, begun.length_small) },
      begun.encoded
          ∙ ap (λ (l : List ℕ). identifier_octets tag ++ (length_octets n ++ l)) (sym (take-append-drop n content))
          ∙ ap (λ (k : ℕ). identifier_octets tag ++ (length_octets k ++ (take n content ++ drop n content))) (sym size)
          ∙ sym (element_encoding_append e (drop n content)),
    )

-- if no contents octets are missing, the octets are an element
pub begun_whole : (octets : List ℕ) (tag : Tag) (n : ℕ) (content : List ℕ) → IsBegun octets tag n content → n ≡ length content
    → IsReadable (element_with tag content) × (octets ≡ element_encoding (element_with tag content))
begun_whole octets tag n content begun all =
    let e : Element = element_with tag content in (
      record { tag = begun.tag_small; content = omega (arith, begun.length_small) },
      begun.encoded
          ∙ ap (λ (k : ℕ). identifier_octets tag ++ (length_octets k ++ content)) all
          ∙ ap (λ (l : List ℕ). identifier_octets tag ++ (length_octets (length content) ++ l)) (sym (append-nil content))
          ∙ sym (element_encoding_append e [])
          ∙ append-nil (element_encoding e),
    )

-- if contents octets are missing, the octets are too short
pub begun_short : (octets : List ℕ) (tag : Tag) (n : ℕ) (content : List ℕ) (needed : ℕ) → IsBegun octets tag n content → length content + needed ≡ n → 0 < needed
    → leading_element octets ≡ Err (ShortData needed)
begun_short octets tag n content needed begun missing some =
    let k : n - length content ≡ needed = omega arith in
    ap leading_element begun.encoded
    ∙ leading_element_short (identifier_octets tag ++ (length_octets n ++ content)) tag (length_octets n ++ content) n content
    (leading_tag_identifier_octets tag (length_octets n ++ content) begun.tag_small) (leading_length_length_octets n content begun.length_small) (omega arith)
    ∙ ap (λ (m : ℕ). Err (ShortData m)) k

-- more octets are more contents octets
pub IsBegun_append : (text : List ℕ) (tag : Tag) (n : ℕ) (content octets : List ℕ) → IsBegun text tag n content → IsBegun (text ++ octets) tag n (content ++ octets)
IsBegun_append text tag n content octets begun = record {
  tag_small = begun.tag_small;
  length_small = begun.length_small;
  encoded =
      ap (λ (l : List ℕ). l ++ octets) begun.encoded
      ∙ append_assoc (identifier_octets tag) (length_octets n ++ content) octets
      ∙ ap (λ (l : List ℕ). identifier_octets tag ++ l) (append_assoc (length_octets n) content octets);
}

-- as an octet makes the header whole, there are no more contents octets than were announced
pub whole_within : (octets : List ℕ) (octet short : ℕ) (tag : Tag) (n : ℕ) (content : List ℕ) → leading_element octets ≡ Err (ShortData short)
    → IsBegun (octets ++ octet ∷ []) tag n content → length content ≤ n
whole_within octets octet short tag n content is_short begun = ⊎_elim
    (λ (l : n < length content).
    let parts = begun_element (octets ++ octet ∷ []) tag n content begun (omega arith) in
    let none = remaining_nil octets octet short (element_with tag (take n content)) (drop n content) parts.0 is_short parts.1 in
    omega (arith, ap length none, length-drop n content))
    (λ (l : length content ≤ n). l) (cases_lt n (length content))

-- one octet more of the header is kept
pub take_set_next : (text octets : List ℕ) (count octet : ℕ) → count < length octets → text ≡ take count octets → text ++ octet ∷ [] ≡ take (count + 1) (set octets count octet)
take_set_next text octets count octet room e = ap (λ (l : List ℕ). l ++ octet ∷ []) e ∙ sym (take_more_set octets count octet room)
