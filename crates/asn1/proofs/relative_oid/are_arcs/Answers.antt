use Rattle.std.proofs.Common.{◌∙◌, sym, ap}
use Rattle.std.specs.Prelude.{is_some}
use Rattle.asn1_values.specs.Lemmas.Identifier.{leading_number_HasFront, is_some_numbers_in_rest, numbers_in_err, numbers_in_empty, some_by, empty_by}
use Rattle.asn1.proofs.relative_oid.are_arcs.Goals as goal

pub loop-rest-smaller : goal.loop-rest-smaller
loop-rest-smaller c = (leading_number_HasFront c.loop-rest.rest.now _ c.in-Ok.after.now c.loop-rest.invariant.octets c.in-Ok.ensures).shorter

pub loop-rest-preserved : goal.loop-rest-preserved
loop-rest-preserved c = record {
  octets = (leading_number_HasFront c.loop-rest.rest.now _ c.in-Ok.after.now c.loop-rest.invariant.octets c.in-Ok.ensures).octets;
  same = is_some_numbers_in_rest c.loop-rest.rest.now _ c.in-Ok.after.now c.loop-rest.invariant.octets (some_by _ _ c.is_empty.ensures c.loop-rest-test.true) c.in-Ok.ensures ∙ c.loop-rest.invariant.same;
}

pub returns-in-Err : goal.returns-in-Err
returns-in-Err c = sym (ap is_some (numbers_in_err c.loop-rest.rest.now _ (some_by _ _ c.is_empty.ensures c.loop-rest-test.true) c.in-Err.ensures.0)) ∙ c.loop-rest.invariant.same

pub returns : goal.returns
returns c = sym (ap is_some (numbers_in_empty c.loop-rest.rest.now (empty_by _ _ c.is_empty.ensures c.loop-rest-test.false))) ∙ c.loop-rest.invariant.same
