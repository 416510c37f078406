use Rattle.std.proofs.Common.{ap}
use Rattle.std.specs.Hash as fed
use Rattle.asn1_core.specs.Lemmas.Texts.{IsOctets_from_reads}
use Rattle.asn1.proofs.SameItems.{sets_tell_items, octets_compare}
use Rattle.asn1.proofs.laws_equality.sets_compare.Goals as goal

pub returns-clause-equality : goal.returns-clause-equality
returns-clause-equality g c a b =
    let octets = IsOctets_from_reads a.content.now a.are_octets in
    let other_octets = IsOctets_from_reads b.content.now b.are_octets in
    octets_compare a.content.now b.content.now _ _
    (sets_tell_items g.T.Asn1Type.der a.content.now b.content.now octets other_octets a.are_ordered b.are_ordered)

pub returns-clause-hash : goal.returns-clause-hash
returns-clause-hash g c a b same =
    let octets = IsOctets_from_reads a.content.now a.are_octets in
    let other_octets = IsOctets_from_reads b.content.now b.are_octets in
    let tell = sets_tell_items g.T.Asn1Type.der a.content.now b.content.now octets other_octets a.are_ordered b.are_ordered in
    ap (fed.slice fed.u8) (tell.1 same)
