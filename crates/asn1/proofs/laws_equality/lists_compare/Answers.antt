use Rattle.std.proofs.Common.{ap}
use Rattle.std.specs.Hash as fed
use Rattle.asn1_core.specs.Lemmas.Texts.{IsOctets_from_reads}
use Rattle.asn1.proofs.SameItems.{lists_tell_items, octets_compare}
use Rattle.asn1.proofs.laws_equality.lists_compare.Goals as goal

pub returns-clause-equality : goal.returns-clause-equality
returns-clause-equality g c a b =
    let octets = IsOctets_from_reads a.content.now a.are_octets in
    let other_octets = IsOctets_from_reads b.content.now b.are_octets in
    octets_compare a.content.now b.content.now _ _
    (lists_tell_items g.T.Asn1Type.der a.content.now b.content.now a.count b.count octets other_octets a.are_items b.are_items)

pub returns-clause-hash : goal.returns-clause-hash
returns-clause-hash g c a b same =
    let octets = IsOctets_from_reads a.content.now a.are_octets in
    let other_octets = IsOctets_from_reads b.content.now b.are_octets in
    let tell = lists_tell_items g.T.Asn1Type.der a.content.now b.content.now a.count b.count octets other_octets a.are_items b.are_items in
    ap (fed.slice fed.u8) (tell.1 same)
