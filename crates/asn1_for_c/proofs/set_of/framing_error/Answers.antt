use Rattle.std.proofs.Common.{[], Err, Some, None, refl, sym, ap, ◌∙◌, rules, tests}
use Rattle.std.proofs.lemmas.List.{nil_from_length}
use Rattle.asn1_for_c.proofs.InOrder.{IsFramed_after_element, length_remaining_lt}
use Rattle.asn1_for_c.proofs.set_of.framing_error.Goals as goal

pub loop-rest-smaller : goal.loop-rest-smaller
loop-rest-smaller c = length_remaining_lt _ _ _ c.in-Ok.ensures.grammar

pub loop-rest-preserved : goal.loop-rest-preserved
loop-rest-preserved c = λ found is. c.loop-rest.invariant found (IsFramed_after_element _ _ _ found c.in-Ok.ensures.grammar is)

pub returns-in-Err : goal.returns-in-Err
returns-in-Err c =
    c.loop-rest.invariant (Some c.kind.result) (record { encodings = []; rest = c.loop-rest.rest.now; each = tt; joined = refl; some = search (rules, tests); stops = c.in-Err.ensures.exact.0 ∙ ap Err (sym c.kind.ensures) })

pub returns : goal.returns
returns c = c.loop-rest.invariant None ([], record { each = tt; joined = nil_from_length c.loop-rest.rest.now (search (rules, tests)) })
