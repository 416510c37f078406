use Rattle.asn1_core.specs.Lemmas.Items.{AllByRecursion_both}
use Rattle.asn1_core.specs.Lemmas.Texts.{IsOctets_from_reads}
use Rattle.asn1.specs.Lists.{left}
use Rattle.asn1.specs.Lemmas.ListItems.{flat_map_left}
use Rattle.asn1.proofs.lists.sequence_of.SequenceOf.known_items.Goals as goal

pub returns : goal.returns
returns g c =
    let d = g.T.Asn1Type.der in
    let self = c.args.self.now in
    let content = self.content.now in
    let is = IsOctets_from_reads content self.are_octets in
    let items = flat_map_left d.read d.encoding (λ m. d.valid m × d.allowed m) d.laws.consumes content self.count is self.are_items in
    (AllByRecursion_both d.valid d.allowed (left d.read content) items.1).1
