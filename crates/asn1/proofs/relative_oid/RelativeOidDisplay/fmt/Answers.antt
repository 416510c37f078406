use Rattle.std.proofs.Common.{rules, ◌++◌, codes, decimal}
use Rattle.std.proofs.Output.{has_written_append, has_written_of_eq}
use Rattle.asn1_values.specs.Lemmas.Identifier.{leading_number_HasFront, some_by, empty_by}
use Rattle.asn1_values.proofs.Dotted.{identifier_numbers_cons, others_text_step, others_text_end}
use Rattle.asn1.specs.Lemmas.Relative.{IsRelativeForm_IsSplit, arcs_text_first}
use Rattle.asn1.proofs.relative_oid.RelativeOidDisplay.fmt.Goals as goal

pub loop-rest-init : goal.loop-rest-init
loop-rest-init g c =
    let form = c.args.self.now.is_content in
    let found = IsRelativeForm_IsSplit c.args.self.now.octets.now _ _ form c.first_arc-arc.ensures in
    record {
      octets = found.octets;
      cuts = found.cuts;
      shown = λ p. (decimal c.first_arc-arc.result.0, search rules, arcs_text_first c.args.self.now.octets.now _ _ form c.first_arc-arc.ensures);
    }

pub first_arc-arc-requires-in-loop-rest-clause-arcs : goal.first_arc-arc-requires-in-loop-rest-clause-arcs
first_arc-arc-requires-in-loop-rest-clause-arcs g c = c.loop-rest.invariant.cuts

pub loop-rest-smaller : goal.loop-rest-smaller
loop-rest-smaller g c = (leading_number_HasFront c.loop-rest.rest.now _ c.first_arc-arc-in-loop-rest.result.1.now c.loop-rest.invariant.octets c.first_arc-arc-in-loop-rest.ensures).shorter

pub loop-rest-preserved : goal.loop-rest-preserved
loop-rest-preserved g c =
    let inv = c.loop-rest.invariant in
    let rest = c.first_arc-arc-in-loop-rest.result.1.now in
    let some = some_by _ _ c.is_empty.ensures c.loop-rest-test.true in
    record {
      octets = (leading_number_HasFront c.loop-rest.rest.now _ rest inv.octets c.first_arc-arc-in-loop-rest.ensures).octets;
      cuts = (identifier_numbers_cons c.loop-rest.rest.now _ rest inv.octets some c.first_arc-arc-in-loop-rest.ensures inv.cuts).0;
      shown = λ p. let w = inv.shown p in (w.0 ++ (codes "." ++ decimal c.first_arc-arc-in-loop-rest.result.0), has_written_append _ _ _ _ _ _ w.1 (search rules), others_text_step c.loop-rest.rest.now _ rest w.0 _ inv.octets some c.first_arc-arc-in-loop-rest.ensures inv.cuts w.2);
    }

pub returns-clause-writes : goal.returns-clause-writes
returns-clause-writes g c = λ p ok. let w = c.loop-rest.invariant.shown p in has_written_of_eq _ _ _ _ _ (others_text_end c.loop-rest.rest.now w.0 _ (empty_by _ _ c.is_empty.ensures c.loop-rest-test.false) w.2) w.1
