use Rattle.std.proofs.Common.{sym, ◌∙◌}
use Rattle.asn1_core.specs.Lemmas.Texts.{IsOctets_from_reads}
use Rattle.asn1.proofs.EqualSets.{in_order_tell}
use Rattle.asn1.proofs.SameItems.{sets_tell_items, octets_compare}
use Rattle.asn1.proofs.lists.sets.SetOfPartialEq.eq.Goals as goal

pub returns-clause-items : goal.returns-clause-items
returns-clause-items g c =
    let a = c.args.self.now in
    let b = c.args.other.now in
    let octets = IsOctets_from_reads a.content.now a.are_octets in
    let other_octets = IsOctets_from_reads b.content.now b.are_octets in
    let tell = sets_tell_items g.T.Asn1Type.der a.content.now b.content.now octets other_octets a.are_ordered b.are_ordered in
    let told = octets_compare a.content.now b.content.now _ _ tell in
    (λ same. told.0 (sym c.eq.ensures ∙ same), λ items. c.eq.ensures ∙ told.1 items)

pub returns-clause-tell : goal.returns-clause-tell
returns-clause-tell g c is lawful vs ws ts us made other_made same =
    let tell = in_order_tell g.T.Asn1Type.der is lawful vs ws made.1 other_made.1 in
    rw (made.2, other_made.2) (tell.0 (sym made.0 ∙ ((returns-clause-items g c).0 same ∙ other_made.0)))

pub returns-clause-told : goal.returns-clause-told
returns-clause-told g c is lawful vs ws ts us made other_made same =
    let tell = in_order_tell g.T.Asn1Type.der is lawful vs ws made.1 other_made.1 in
    (returns-clause-items g c).1 (made.0 ∙ (tell.1 (rw (← made.2, ← other_made.2) same) ∙ sym other_made.0))
