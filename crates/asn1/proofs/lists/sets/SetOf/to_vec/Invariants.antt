use Rattle.std.proofs.Common.{◌≡◌, ◌++◌, map}
use Rattle.asn1_core.specs.Listing.{encoding_less}
use Rattle.asn1.specs.Sets.{set_left}
use Rattle.asn1.proofs.lists.sets.SetOf.to_vec.Given as goal

abbrev pub invariant-loop-item : goal.invariant-loop-item
invariant-loop-item g l =
    let d = g.T.Asn1Type.der in
    map d.meaning l.all.items ++ set_left encoding_less d.read l.item-iterator.content.now ≡ set_left encoding_less d.read l.fn.self.content.now
