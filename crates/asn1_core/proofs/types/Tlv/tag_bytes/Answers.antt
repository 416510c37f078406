use Rattle.std.proofs.Common.{◌≡◌, ◌≤◌, ◌++◌, List, ℕ, length, take, refl, ap, sym, arith, length-append}
use Rattle.std.proofs.lemmas.List.{take_at, length-take-le}
use Rattle.asn1_core.specs.declared.tag.Tag.{Tag}
use Rattle.asn1_core.specs.Tag.{identifier_octets}
use Rattle.asn1_core.specs.Length.{length_octets}
use Rattle.asn1_core.specs.Element.{element, element_encoding}
use Rattle.asn1_core.proofs.types.Tlv.tag_bytes.Goals as goal

-- the identifier octets are at the start of the element's encoding
in_front : (full : List ℕ) (tag : Tag) (content : List ℕ) (n : ℕ) → full ≡ element_encoding (element tag content) → n ≡ length (identifier_octets tag) → take n full ≡ identifier_octets tag
unfolding element_encoding
in_front full tag content n is count = rw (is, count) (take_at (identifier_octets tag) (length_octets (length content) ++ content) (length (identifier_octets tag)) refl)

within : (full : List ℕ) (tag : Tag) (content : List ℕ) → full ≡ element_encoding (element tag content) → length (identifier_octets tag) ≤ length full
unfolding element_encoding
within full tag content is = omega (arith, ap length is, length-append (identifier_octets tag) (length_octets (length content) ++ content))

pub slice_bounds-result-end : goal.slice_bounds-result-end
slice_bounds-result-end c =
    let tlv = c.args.self.now in
    let fits : c.encoded_length.result ≤ length tlv.full_data.now = omega (arith, c.encoded_length.ensures.value, within tlv.full_data.now tlv.tag tlv.«data».now tlv.is_whole) in
    sym (length-take-le c.encoded_length.result tlv.full_data.now fits)

pub returns : goal.returns
returns c =
    let tlv = c.args.self.now in
    in_front tlv.full_data.now tlv.tag tlv.«data».now c.encoded_length.result tlv.is_whole c.encoded_length.ensures.value
