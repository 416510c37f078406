use Rattle.std.proofs.Common.{rules}
use Rattle.std.proofs.lemmas.Result.{IfOk-weaker}
use Rattle.asn1_tests.proofs.written_sets.written_set.Goals as goal

pub returns : goal.returns
returns c =
    IfOk-weaker c.write_single.result _ _ (λ v written. record { content = written.content; is_content = c.set_writers_write_sets.ensures _ written.content written.is_content; is = written.is }) c.write_single.ensures.ok
