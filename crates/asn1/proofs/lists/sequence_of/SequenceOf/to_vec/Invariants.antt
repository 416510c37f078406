use Rattle.std.proofs.Common.{◌≡◌, ◌++◌, map}
use Rattle.asn1.specs.Lists.{left}
use Rattle.asn1.proofs.lists.sequence_of.SequenceOf.to_vec.Given as goal

abbrev pub invariant-loop-item : goal.invariant-loop-item
invariant-loop-item g l =
    let d = g.T.Asn1Type.der in
    map d.meaning l.all.items ++ left d.read l.item-iterator.content.now ≡ left d.read l.fn.self.content.now
