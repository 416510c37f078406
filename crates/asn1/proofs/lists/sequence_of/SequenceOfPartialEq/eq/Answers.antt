use Rattle.std.proofs.Common.{sym, ◌∙◌}
use Rattle.asn1_core.specs.Lemmas.Texts.{IsOctets_from_reads}
use Rattle.asn1.proofs.SameItems.{lists_tell_items, octets_compare}
use Rattle.asn1.proofs.lists.sequence_of.SequenceOfPartialEq.eq.Goals as goal

pub returns-clause-items : goal.returns-clause-items
returns-clause-items g c =
    let a = c.args.self.now in
    let b = c.args.other.now in
    let octets = IsOctets_from_reads a.content.now a.are_octets in
    let other_octets = IsOctets_from_reads b.content.now b.are_octets in
    let tell = lists_tell_items g.T.Asn1Type.der a.content.now b.content.now a.count b.count octets other_octets a.are_items b.are_items in
    let told = octets_compare a.content.now b.content.now _ _ tell in
    (λ same. told.0 (sym c.eq.ensures ∙ same), λ items. c.eq.ensures ∙ told.1 items)
