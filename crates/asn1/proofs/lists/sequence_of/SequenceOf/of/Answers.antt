use Rattle.std.proofs.Common.{◌∙◌, length, map, arith, ◌^◌, ◌≤◌}
use Rattle.std.specs.List.{flat_map, AllByRecursion}
use Rattle.asn1_core.specs.Listing.{sequence_tag}
use Rattle.asn1_core.specs.Lemmas.Items.{AllByRecursion_weaker}
use Rattle.asn1.specs.Lemmas.ListItems.{items_memory}
use Rattle.asn1.proofs.MadeLists.{Fits_length_content, IsOk_Returns, list_made, list_means}
use Rattle.asn1.proofs.lists.sequence_of.SequenceOf.of.Goals as goal

pub returns-in-Ok-clause-items : goal.returns-in-Ok-clause-items
returns-in-Ok-clause-items g c lawful is_element allowed =
    let d = g.T.Asn1Type.der in
    let ms = map d.meaning c.args.items.now in
    let valid : AllByRecursion d.valid ms = rw (← c.new-list.ensures) c.known.ensures in
    let octets = rw c.new-list.ensures at (c.in_ok-store.ensures.encoding c.can_parse-accepted.ensures.plain) in
    let are = c.in-Ok.ensures sequence_tag (flat_map d.encoding ms) (omega arith) (c.as_slice.ensures.value ∙ octets) in
    list_means d ms valid lawful is_element allowed _ _ _ c.parse_data.result _ are.0 are.1 are.2 c.parse_data.ensures

pub returns-in-Ok-clause-unbounded : goal.returns-in-Ok-clause-unbounded
returns-in-Ok-clause-unbounded g c lawful is_element free =
    let d = g.T.Asn1Type.der in
    let valid : AllByRecursion d.valid (map d.meaning c.args.items.now) = rw (← c.new-list.ensures) c.known.ensures in
    returns-in-Ok-clause-items g c lawful is_element (AllByRecursion_weaker d.valid d.allowed (d.laws.unbounded free) _ valid)

pub returns-in-Ok-clause-made : goal.returns-in-Ok-clause-made
returns-in-Ok-clause-made g c lawful is_element allowed fits =
    let d = g.T.Asn1Type.der in
    let ms = map d.meaning c.args.items.now in
    let valid : AllByRecursion d.valid ms = rw (← c.new-list.ensures) c.known.ensures in
    let octets = rw c.new-list.ensures at (c.in_ok-store.ensures.encoding c.can_parse-accepted.ensures.plain) in
    let are = c.in-Ok.ensures sequence_tag (flat_map d.encoding ms) (omega arith) (c.as_slice.ensures.value ∙ octets) in
    list_made d ms valid lawful is_element _ _ _ allowed c.parse_data.result _ are.0 are.2 c.parse_data.ensures

pub returns-in-Err-clause-read : goal.returns-in-Err-clause-read
returns-in-Err-clause-read g c fits =
    let d = g.T.Asn1Type.der in
    let ms = map d.meaning c.args.items.now in
    let octets = rw c.new-list.ensures at (c.in_ok-store.ensures.encoding c.can_parse-accepted.ensures.plain) in
    let long : 2 ^ 32 ≤ length (flat_map d.encoding ms) = c.in-Err.ensures sequence_tag (flat_map d.encoding ms) (omega arith) (c.as_slice.ensures.value ∙ octets) in
    absurd (omega (arith, long, Fits_length_content sequence_tag (flat_map d.encoding ms) (omega arith) fits))

pub returns-in-Err-clause-made : goal.returns-in-Err-clause-made
returns-in-Err-clause-made g c lawful is_element allowed fits =
    let d = g.T.Asn1Type.der in
    let ms = map d.meaning c.args.items.now in
    let octets = rw c.new-list.ensures at (c.in_ok-store.ensures.encoding c.can_parse-accepted.ensures.plain) in
    let long : 2 ^ 32 ≤ length (flat_map d.encoding ms) = c.in-Err.ensures sequence_tag (flat_map d.encoding ms) (omega arith) (c.as_slice.ensures.value ∙ octets) in
    absurd (omega (arith, long, Fits_length_content sequence_tag (flat_map d.encoding ms) (omega arith) fits))

pub returns-in-Ok-clause-there : goal.returns-in-Ok-clause-there
returns-in-Ok-clause-there g c lawful is_element none allowed fits =
    let d = g.T.Asn1Type.der in
    IsOk_Returns _ _ _ _ (λ places out. none (items_memory d.read d.runs_out d.takes_memory d.laws.memory _ _ _ places out)) (returns-in-Ok-clause-made g c lawful is_element allowed fits)

pub returns-in-Err-clause-there : goal.returns-in-Err-clause-there
returns-in-Err-clause-there g c lawful is_element none allowed fits =
    let d = g.T.Asn1Type.der in
    let ms = map d.meaning c.args.items.now in
    let octets = rw c.new-list.ensures at (c.in_ok-store.ensures.encoding c.can_parse-accepted.ensures.plain) in
    let long : 2 ^ 32 ≤ length (flat_map d.encoding ms) = c.in-Err.ensures sequence_tag (flat_map d.encoding ms) (omega arith) (c.as_slice.ensures.value ∙ octets) in
    absurd (omega (arith, long, Fits_length_content sequence_tag (flat_map d.encoding ms) (omega arith) fits))
