use Rattle.std.proofs.Common.{◌≡◌, ℕ, ◌≤◌, List, ◌++◌, length, take, drop, Ok, refl, ap, sym, ◌∙◌, arith}
use Rattle.std.proofs.lemmas.Bool.{le-ltb}
use Rattle.std.proofs.lemmas.List.{length-append}
use Rattle.asn1_core.specs.declared.tag.Tag.{Tag}
use Rattle.asn1_core.specs.Base256.{IsOctets}
use Rattle.asn1_core.specs.Element.{leading_content, leading_element, element, element_encoding}
use Rattle.asn1_core.specs.Lemmas.Texts.{IsOctets_from_reads}
use Rattle.asn1_core.specs.Lemmas.Elements.{leading_element_ok_is, take_of_append}
use Rattle.asn1_core.proofs.parser.cut.Goals as goal

-- the element that was cut off, and the octets that it was cut from
found : (octets : List ℕ) (tag : Tag) (n : ℕ) (behind content rest : List ℕ) → leading_element octets ≡ leading_content tag n behind → n ≤ length behind → content ≡ take n behind → rest ≡ drop n behind → leading_element octets ≡ Ok (element tag content, rest)
found octets tag n behind content rest header enough c r = rw (c, r) (header ∙ rw (le-ltb (length behind) n enough) refl)

parts : (octets : List ℕ) (tag : Tag) (content rest : List ℕ) → IsOctets octets → leading_element octets ≡ Ok (element tag content, rest) → octets ≡ element_encoding (element tag content) ++ rest
parts octets tag content rest is same = (leading_element_ok_is octets (element tag content) rest is same).1

pub slice_bounds-full_data-count : goal.slice_bounds-full_data-count
slice_bounds-full_data-count c =
    let f = found c.args.octets.now c.args.tag c.args.n c.args.rest.now _ _ c.requires.header c.requires.enough c.split_at.ensures.front c.split_at.ensures.back in
    let p = parts c.args.octets.now c.args.tag c.split_at.result.0.now c.split_at.result.1.now (IsOctets_from_reads _ (λ i. omega (arith, c.type_inv.octets i))) f in
    omega (arith, ap length p, length-append (element_encoding (element c.args.tag c.split_at.result.0.now)) c.split_at.result.1.now)

pub invariant_of-result : goal.invariant_of-result
invariant_of-result c =
    let f = found c.args.octets.now c.args.tag c.args.n c.args.rest.now _ _ c.requires.header c.requires.enough c.split_at.ensures.front c.split_at.ensures.back in
    let p = parts c.args.octets.now c.args.tag c.split_at.result.0.now c.split_at.result.1.now (IsOctets_from_reads _ (λ i. omega (arith, c.type_inv.octets i))) f in
    record { is_whole = take_of_append c.args.octets.now _ c.split_at.result.1.now p }

pub returns-clause-answer : goal.returns-clause-answer
returns-clause-answer c = found c.args.octets.now c.args.tag c.args.n c.args.rest.now _ _ c.requires.header c.requires.enough c.split_at.ensures.front c.split_at.ensures.back

pub returns-clause-parts : goal.returns-clause-parts
returns-clause-parts c =
    let f = found c.args.octets.now c.args.tag c.args.n c.args.rest.now _ _ c.requires.header c.requires.enough c.split_at.ensures.front c.split_at.ensures.back in
    let p = parts c.args.octets.now c.args.tag c.split_at.result.0.now c.split_at.result.1.now (IsOctets_from_reads _ (λ i. omega (arith, c.type_inv.octets i))) f in
    p ∙ ap (λ (s : List ℕ). s ++ c.split_at.result.1.now) (sym (take_of_append c.args.octets.now _ c.split_at.result.1.now p))
