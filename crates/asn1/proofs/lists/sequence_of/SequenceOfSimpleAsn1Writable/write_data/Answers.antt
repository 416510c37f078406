use Rattle.asn1_core.specs.Lemmas.Texts.{IsOctets_from_reads}
use Rattle.asn1.specs.Lists.{left}
use Rattle.asn1.specs.Lemmas.ListItems.{flat_map_left}
use Rattle.asn1.proofs.SoFar.{Appends_Joins}
use Rattle.asn1.proofs.lists.sequence_of.SequenceOfSimpleAsn1Writable.write_data.Goals as goal

pub returns-then-writes_as_read-clause-ok : goal.returns-then-writes_as_read-clause-ok
returns-then-writes_as_read-clause-ok g c =
    let d = g.T.Asn1Type.der in
    let list = c.args.self.now in
    let content = list.content.now in
    let is = flat_map_left d.read d.encoding (λ m. d.valid m × d.allowed m) d.laws.consumes content list.count (IsOctets_from_reads content list.are_octets) list.are_items in
    Appends_Joins d c.can_parse-accepted.ensures.plain (left d.read content) content c.args.dest.now.bytes c.push_slice.new.self.bytes is.0 is.1 c.in_ok-push_slice.ensures.ok
