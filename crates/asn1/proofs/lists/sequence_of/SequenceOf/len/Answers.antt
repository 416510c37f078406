use Rattle.std.proofs.Common.{◌≤◌, sym, subst}
use Rattle.asn1_core.specs.Lemmas.Items.{AllByRecursion_both}
use Rattle.asn1_core.specs.Lemmas.Texts.{IsOctets_from_reads}
use Rattle.asn1.specs.Lists.{left}
use Rattle.asn1.specs.Lemmas.ListItems.{length_left, flat_map_left}
use Rattle.asn1.proofs.lists.sequence_of.SequenceOf.len.Goals as goal

pub returns-clause-allowed : goal.returns-clause-allowed
returns-clause-allowed g c low high =
    let d = g.T.Asn1Type.der in
    let self = c.args.self.now in
    let content = self.content.now in
    let is = IsOctets_from_reads content self.are_octets in
    let items = flat_map_left d.read d.encoding (λ m. d.valid m × d.allowed m) d.laws.consumes content self.count is self.are_items in
    let counted = sym (length_left d.read content self.count self.are_items) in (
      (AllByRecursion_both d.valid d.allowed (left d.read content) items.1).1,
      (subst (λ n. g.row.MINIMUM_LEN ≤ n) counted low, λ bound. subst (λ n. n ≤ g.row.MAXIMUM_LEN) counted high),
    )
