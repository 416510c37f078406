use Rattle.asn1_core.specs.Listing.{encoding_less}
use Rattle.asn1_core.specs.Lemmas.Items.{AllByRecursion_both}
use Rattle.asn1_core.specs.Lemmas.Texts.{IsOctets_from_reads}
use Rattle.asn1.specs.Sets.{set_left}
use Rattle.asn1.specs.Lemmas.SetItems.{set_left_is}
use Rattle.asn1.proofs.lists.sets.SetOf.known_items.Goals as goal

pub returns : goal.returns
returns g c =
    let d = g.T.Asn1Type.der in
    let self = c.args.self.now in
    let content = self.content.now in
    let is = IsOctets_from_reads content self.are_octets in
    let items = set_left_is encoding_less d.read d.encoding (λ m. d.valid m × d.allowed m) d.laws.consumes content is self.are_ordered in
    (AllByRecursion_both d.valid d.allowed (set_left encoding_less d.read content) items.1).1
