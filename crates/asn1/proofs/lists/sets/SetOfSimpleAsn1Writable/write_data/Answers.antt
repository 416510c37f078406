use Rattle.asn1_core.specs.Listing.{encoding_less}
use Rattle.asn1_core.specs.Lemmas.Texts.{IsOctets_from_reads}
use Rattle.asn1.specs.Sets.{set_left}
use Rattle.asn1.specs.Lemmas.SetItems.{set_left_is}
use Rattle.asn1.proofs.SoFar.{Appends_Joins}
use Rattle.asn1.proofs.lists.sets.SetOfSimpleAsn1Writable.write_data.Goals as goal

pub returns-then-writes_as_read-clause-ok : goal.returns-then-writes_as_read-clause-ok
returns-then-writes_as_read-clause-ok g c =
    let d = g.T.Asn1Type.der in
    let content = c.args.self.now.content.now in
    let is = set_left_is encoding_less d.read d.encoding (λ m. d.valid m × d.allowed m) d.laws.consumes content (IsOctets_from_reads content c.args.self.now.are_octets) c.args.self.now.are_ordered in
    Appends_Joins d c.can_parse-accepted.ensures.plain (set_left encoding_less d.read content) content c.args.dest.now.bytes c.push_slice.new.self.bytes is.0 is.1 c.in_ok-push_slice.ensures.ok
