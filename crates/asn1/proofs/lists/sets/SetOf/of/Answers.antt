use Rattle.std.proofs.Common.{◌∙◌, List, ℕ, ap, length, map, arith, ◌^◌, ◌≤◌}
use Rattle.asn1_core.specs.Element.{element, element_encoding}
use Rattle.std.specs.List.{flat_map, AllByRecursion}
use Rattle.asn1_core.specs.Listing.{encoding_less, set_tag}
use Rattle.asn1.specs.MadeLists.{in_order}
use Rattle.asn1_core.specs.Lemmas.Items.{AllByRecursion_weaker}
use Rattle.asn1.specs.Lemmas.SetItems.{set_memory}
use Rattle.asn1.proofs.EqualSets.{made_tells}
use Rattle.asn1.proofs.MadeLists.{Fits_length_content, IsOk_Returns, concat_listing, set_made, set_means, set_read_there}
use Rattle.asn1.proofs.lists.sets.SetOf.of.Goals as goal

pub returns-in-Ok-clause-read : goal.returns-in-Ok-clause-read
returns-in-Ok-clause-read g c fits =
    let d = g.T.Asn1Type.der in
    let ms = map d.meaning c.args.items.now in
    let content = flat_map d.encoding (in_order d.encoding ms) in
    let octets = rw c.new-set.ensures at (c.in_ok-store.ensures.encoding c.can_parse-accepted.ensures.plain) in
    let are = c.in-Ok.ensures set_tag content (omega arith) (c.as_slice.ensures.value ∙ (octets ∙ ap (λ (t : List ℕ). element_encoding (element set_tag t)) (concat_listing d.encoding ms))) in
    set_read_there d ms _ c.parse_data.result _ are.0 c.parse_data.ensures

pub returns-in-Ok-clause-items : goal.returns-in-Ok-clause-items
returns-in-Ok-clause-items g c lawful is_element allowed =
    let d = g.T.Asn1Type.der in
    let ms = map d.meaning c.args.items.now in
    let content = flat_map d.encoding (in_order d.encoding ms) in
    let valid : AllByRecursion d.valid ms = rw (← c.new-set.ensures) c.known.ensures in
    let octets = rw c.new-set.ensures at (c.in_ok-store.ensures.encoding c.can_parse-accepted.ensures.plain) in
    let are = c.in-Ok.ensures set_tag content (omega arith) (c.as_slice.ensures.value ∙ (octets ∙ ap (λ (t : List ℕ). element_encoding (element set_tag t)) (concat_listing d.encoding ms))) in
    set_means d ms valid lawful is_element allowed _ c.parse_data.result _ are.0 are.2 c.parse_data.ensures

pub returns-in-Ok-clause-unbounded : goal.returns-in-Ok-clause-unbounded
returns-in-Ok-clause-unbounded g c lawful is_element free =
    let d = g.T.Asn1Type.der in
    let valid : AllByRecursion d.valid (map d.meaning c.args.items.now) = rw (← c.new-set.ensures) c.known.ensures in
    returns-in-Ok-clause-items g c lawful is_element (AllByRecursion_weaker d.valid d.allowed (d.laws.unbounded free) _ valid)

pub returns-in-Ok-clause-made : goal.returns-in-Ok-clause-made
returns-in-Ok-clause-made g c lawful is_element allowed fits =
    let d = g.T.Asn1Type.der in
    let ms = map d.meaning c.args.items.now in
    let content = flat_map d.encoding (in_order d.encoding ms) in
    let valid : AllByRecursion d.valid ms = rw (← c.new-set.ensures) c.known.ensures in
    let octets = rw c.new-set.ensures at (c.in_ok-store.ensures.encoding c.can_parse-accepted.ensures.plain) in
    let are = c.in-Ok.ensures set_tag content (omega arith) (c.as_slice.ensures.value ∙ (octets ∙ ap (λ (t : List ℕ). element_encoding (element set_tag t)) (concat_listing d.encoding ms))) in
    set_made d ms valid lawful is_element _ allowed c.parse_data.result _ are.0 are.2 c.parse_data.ensures

pub returns-in-Err-clause-read : goal.returns-in-Err-clause-read
returns-in-Err-clause-read g c fits =
    let d = g.T.Asn1Type.der in
    let ms = map d.meaning c.args.items.now in
    let content = flat_map d.encoding (in_order d.encoding ms) in
    let octets = rw c.new-set.ensures at (c.in_ok-store.ensures.encoding c.can_parse-accepted.ensures.plain) in
    let long : 2 ^ 32 ≤ length content = c.in-Err.ensures set_tag content (omega arith) (c.as_slice.ensures.value ∙ (octets ∙ ap (λ (t : List ℕ). element_encoding (element set_tag t)) (concat_listing d.encoding ms))) in
    absurd (omega (arith, long, Fits_length_content set_tag content (omega arith) fits))

pub returns-in-Err-clause-made : goal.returns-in-Err-clause-made
returns-in-Err-clause-made g c lawful is_element allowed fits =
    let d = g.T.Asn1Type.der in
    let ms = map d.meaning c.args.items.now in
    let content = flat_map d.encoding (in_order d.encoding ms) in
    let octets = rw c.new-set.ensures at (c.in_ok-store.ensures.encoding c.can_parse-accepted.ensures.plain) in
    let long : 2 ^ 32 ≤ length content = c.in-Err.ensures set_tag content (omega arith) (c.as_slice.ensures.value ∙ (octets ∙ ap (λ (t : List ℕ). element_encoding (element set_tag t)) (concat_listing d.encoding ms))) in
    absurd (omega (arith, long, Fits_length_content set_tag content (omega arith) fits))

pub returns-in-Ok-clause-there : goal.returns-in-Ok-clause-there
returns-in-Ok-clause-there g c lawful is_element none allowed fits =
    let d = g.T.Asn1Type.der in
    IsOk_Returns _ _ _ _ (λ places out. none (set_memory encoding_less d.read d.runs_out d.takes_memory d.laws.memory _ _ _ _ places out)) (returns-in-Ok-clause-made g c lawful is_element allowed fits)

pub returns-in-Err-clause-there : goal.returns-in-Err-clause-there
returns-in-Err-clause-there g c lawful is_element none allowed fits =
    let d = g.T.Asn1Type.der in
    let ms = map d.meaning c.args.items.now in
    let content = flat_map d.encoding (in_order d.encoding ms) in
    let octets = rw c.new-set.ensures at (c.in_ok-store.ensures.encoding c.can_parse-accepted.ensures.plain) in
    let long : 2 ^ 32 ≤ length content = c.in-Err.ensures set_tag content (omega arith) (c.as_slice.ensures.value ∙ (octets ∙ ap (λ (t : List ℕ). element_encoding (element set_tag t)) (concat_listing d.encoding ms))) in
    absurd (omega (arith, long, Fits_length_content set_tag content (omega arith) fits))

pub returns-in-Ok-clause-tell : goal.returns-in-Ok-clause-tell
returns-in-Ok-clause-tell g c lawful is_element allowed others others_valid =
    let d = g.T.Asn1Type.der in
    let valid : AllByRecursion d.valid (map d.meaning c.args.items.now) = rw (← c.new-set.ensures) c.known.ensures in
    made_tells d _ c.can_parse-accepted.ensures.read lawful c.args.items.now others valid others_valid c.parse_data.result (returns-in-Ok-clause-items g c lawful is_element allowed)
