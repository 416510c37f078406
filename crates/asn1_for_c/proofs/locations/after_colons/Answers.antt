use Rattle.std.proofs.Common.{arith}
use Rattle.asn1_for_c.proofs.Places.{prefix_len_reverse_drop, after_last_colon, after_last_no_colon}
use Rattle.asn1_for_c.proofs.locations.after_colons.Goals as goal
use Rattle.asn1_for_c.proofs.locations.after_colons.Goals.{then-loop-start-test+else-name-start-ne58, else-loop-start-test}

pub loop-start-preserved : goal.loop-start-preserved
loop-start-preserved c =
    let so_far = c.loop-start.invariant in
    (omega (arith, so_far.0), prefix_len_reverse_drop c.args.name.now c.loop-start.start so_far.0 so_far.1 c.loop-start-test.true c.if-name-start-ne58.true)

pub returns : goal.returns
returns c =
    let so_far = c.loop-start.invariant in
    elim c.loop-start-test.branch [
      | then-loop-start-test+else-name-start-ne58 w ↦ after_last_colon c.args.name.now c.loop-start.start so_far.0 so_far.1 w.loop-start-test.true w.if-name-start-ne58.false
      | else-loop-start-test w ↦ after_last_no_colon c.args.name.now c.loop-start.start so_far.0 so_far.1 (omega (arith, w.loop-start-test.false))
    ]
