use Rattle.std.proofs.Common.{rules, ◌∙◌, ◌≡◌, ◌-◌, ◌++◌, ◌∷◌, [], length, take, drop, List, ℕ, ap, refl, arith, inr}
use Rattle.std.proofs.lemmas.List.{length-drop, take_all}
use Rattle.asn1_core.specs.SetSteps.{first_number}
use Rattle.asn1_core.specs.declared.writer.sets.Span.{Span}
use Rattle.asn1_core.specs.Listing.{AnyNames}
use Rattle.asn1_core.proofs.Bodies.{KeepsPrefix_append, KeepsPrefix_trans}
use Rattle.asn1_core.specs.Lemmas.Items.{AnyNames_get_or, IsErrAnd_IfErr, refuses_more, AllByRecursion_map_get_or}
use Rattle.asn1_core.proofs.Noted.{NotesTexts_push}
use Rattle.asn1_core.proofs.writer.sets.write_items.Goals as goal

pub write_element-requires : goal.write_element-requires
write_element-requires g c =
    let d = g.T.Asn1Type.der in
    inr (AllByRecursion_map_get_or d.meaning d.closures c.args.items.now c.loop-item.item-index c.item-item.result c.requires.closures c.loop-item-test.true c.item-item.is)

pub returns-in_err-write_element-clause-error : goal.returns-in_err-write_element-clause-error
returns-in_err-write_element-clause-error g c =
    IsErrAnd_IfErr _ _ _ c.from_residual.ensures.1 (refuses_more (g.T.Asn1Writable.write_errors c.item-item.result) (AnyNames g.T.Asn1Writable.write_errors c.args.items.now) _ _ (AnyNames_get_or g.T.Asn1Writable.write_errors c.args.items.now c.loop-item.item-index c.item-item.result _ c.loop-item-test.true c.item-item.is) c.in_err-write_element.ensures.error)

pub loop-item-preserved : goal.loop-item-preserved
loop-item-preserved g c =
    let d = g.T.Asn1Type.der in
    let old = c.loop-item.writer.buf.now.bytes in
    let new = c.write_element.new.self.buf.now.bytes in
    let from = c.len-from.result in
    let octets : List ℕ = c.as_slice.result.now in
    let span : Span = record { from = from; len = c.len.result - from; first = c.first_number-first.result } in
    let pushed : c.push.new.self.items ≡ c.loop-item.spans.items ++ span ∷ [] = search rules in
    let at : from ≡ length old = c.len-from.ensures in
    let size : span.len ≡ length new - length old = rw (c.len.ensures, at) refl in
    let whole : take (length octets - from) (drop from octets) ≡ drop from octets = take_all (length octets - from) (drop from octets) (omega (arith, length-drop from octets)) in
    let first : c.first_number-first.result ≡ first_number (drop (length old) new) = c.first_number-first.ensures ∙ ap first_number (whole ∙ rw (c.as_slice.ensures, at) refl) in
    let a = c.in_ok-write_element.ensures.ok in
    record {
      same_buffer = c.in_ok-write_element.ensures.same_buffer ∙ c.loop-item.invariant.same_buffer;
      front = KeepsPrefix_trans c.loop-item.invariant.front (KeepsPrefix_append a.encoding a.joined);
      notes = rw pushed (NotesTexts_push (λ v. d.encodings (d.meaning v)) c.args.items.now c.loop-item.item-index c.item-item.result old new c.loop-item.spans.items span c.loop-item-test.true c.item-item.is c.loop-item.invariant.notes a at size first);
    }
