use Rattle.std.proofs.Common.{◌≡◌, ℕ, List, length, Some, sym, ap, ◌∙◌}
use Rattle.asn1_core.specs.Listing.{Joins}
use Rattle.asn1_core.specs.Lemmas.Items.{joins_one_encoding}
use Rattle.asn1_core.specs.Lemmas.Texts.{IsOctets_from_reads}
use Rattle.asn1.specs.Lists.{left}
use Rattle.asn1.specs.Lemmas.ListItems.{flat_map_left}
use Rattle.asn1.proofs.lists.sequence_of.SequenceOfSimpleAsn1Writable.data_length.Goals as goal

pub returns-clause-length : goal.returns-clause-length
returns-clause-length g c =
    let d = g.T.Asn1Type.der in
    let content = c.args.self.now.content.now in
    let is = flat_map_left d.read d.encoding (λ m. d.valid m × d.allowed m) d.laws.consumes content c.args.self.now.count (IsOctets_from_reads content c.args.self.now.are_octets) c.args.self.now.are_items in
    let right : (t : List ℕ) → Joins d.encodings (left d.read content) t → length t ≡ length content = λ t written. ap length (joins_one_encoding d.encoding d.encodings (d.laws.one_encoding c.can_parse-accepted.ensures.plain) (left d.read content) t written ∙ sym is.0) in
    record { right = right; told = λ k t written small. ap Some (sym (right t written)) }
