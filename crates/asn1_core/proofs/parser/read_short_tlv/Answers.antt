use Rattle.std.proofs.Common.{◌≡◌, ℕ, ◌<◌, ◌≤◌, ◌%◌, List, [], ◌∷◌, length, drop, get_or, arith}
use Rattle.std.proofs.lemmas.List.{take_rest}
use Rattle.std.proofs.lemmas.Nat.{and_mask}
use Rattle.asn1_core.specs.Tag.{tag_of}
use Rattle.asn1_core.specs.Element.{leading_content, leading_element}
use Rattle.asn1_core.specs.Lemmas.Tags.{leading_tag_low}
use Rattle.asn1_core.specs.Lemmas.Lengths.{leading_length_low}
use Rattle.asn1_core.specs.Lemmas.Elements.{leading_element_leading_content}
use Rattle.asn1_core.proofs.parser.read_short_tlv.Goals as goal

header : (octets : List ℕ) → 2 ≤ length octets → get_or octets 0 0 % 32 < 31 → get_or octets 1 0 < 128 → leading_element octets ≡ leading_content (tag_of (get_or octets 0 0) (get_or octets 0 0 % 32)) (get_or octets 1 0) (drop 2 octets)
header [] two low small = absurd (omega arith)
header (x ∷ []) two low small = absurd (omega arith)
header (x ∷ y ∷ rest) two low small = leading_element_leading_content (x ∷ y ∷ rest) (tag_of x (x % 32)) (y ∷ rest) y rest (leading_tag_low (x ∷ y ∷ rest) (omega arith) low) (leading_length_low (y ∷ rest) (omega arith) small)

pub cut-requires-clause-header : goal.cut-requires-clause-header
cut-requires-clause-header c =
    let octets = c.args.octets.now in
    let low = and_mask (get_or octets 0 0) 5 in
    rw (c.from_first_octet-tag.ensures, c.from.ensures, low, c.from-n.ensures, take_rest octets 2) (header octets c.in-len2-up.len_at_least (omega (arith, low)) (omega arith))
