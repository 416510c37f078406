use Rattle.std.proofs.Common.{rules, ◌∙◌, arith, subst, map, inr}
use Rattle.std.proofs.lemmas.List.{take_all}
use Rattle.asn1_core.specs.Buffer.{Appends}
use Rattle.asn1_core.specs.Listing.{Joins, AnyNames}
use Rattle.asn1_core.specs.Lemmas.Items.{Appends_Joins_take, AnyNames_get_or, IsErrAnd_IfErr, refuses_more, AllByRecursion_map_get_or, Appends_Joins_map}
use Rattle.asn1.proofs.lists.writers.SequenceOfWriterSimpleAsn1Writable.write_data.Goals as goal

pub write_element-requires : goal.write_element-requires
write_element-requires g c =
    let d = g.T.Asn1Type.der in
    inr (AllByRecursion_map_get_or d.meaning d.closures c.args.self.now.items.now c.loop-item.item-index c.item-item.result c.requires c.loop-item-test.true c.item-item.is)

pub returns-in_err-write_element-clause-error : goal.returns-in_err-write_element-clause-error
returns-in_err-write_element-clause-error g c =
    IsErrAnd_IfErr _ _ _ c.from_residual.ensures.1 (refuses_more (g.T.Asn1Writable.write_errors c.item-item.result) (AnyNames g.T.Asn1Writable.write_errors c.args.self.now.items.now) _ _ (AnyNames_get_or g.T.Asn1Writable.write_errors c.args.self.now.items.now c.loop-item.item-index c.item-item.result _ c.loop-item-test.true c.item-item.is) c.in_err-write_element.ensures.error)

pub loop-item-preserved : goal.loop-item-preserved
loop-item-preserved g c =
    let d = g.T.Asn1Type.der in
    (c.in_ok-write_element.ensures.same_buffer ∙ c.loop-item.invariant.0, Appends_Joins_take (λ v. d.encodings (d.meaning v)) c.args.self.now.items.now c.loop-item.item-index c.item-item.result _ _ _ c.loop-item-test.true c.item-item.is c.loop-item.invariant.1 c.in_ok-write_element.ensures.ok)

pub returns-clause-ok : goal.returns-clause-ok
returns-clause-ok g c =
    let d = g.T.Asn1Type.der in
    let xs = c.args.self.now.items.now in
    let old = c.new-writer.result.buf.now.bytes in
    let new = c.loop-item.writer.buf.now.bytes in
    let a : Appends (Joins d.encodings (map d.meaning xs)) old new = Appends_Joins_map d.meaning d.encodings xs old new (subst (λ ys. Appends (Joins (λ v. d.encodings (d.meaning v)) ys) old new) (take_all c.loop-item.item-index xs (omega arith)) c.loop-item.invariant.1) in
    search rules
