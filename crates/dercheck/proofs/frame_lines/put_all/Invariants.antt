use Rattle.std.proofs.Common.{◌≡◌, ◌++◌, List, ℕ, length}
use Rattle.std.specs.Io.KnownBytes.{Appends}
use Rattle.dercheck.proofs.frame_lines.put_all.Given as goal

-- what was put is in the sink, and `rest` is still to come
abbrev pub invariant-loop-rest : goal.invariant-loop-rest
invariant-loop-rest g l =
    (done : List ℕ)
    × (done ++ l.rest ≡ l.octets)
    × Appends (g.W.Sink.held l.initial.sink) (g.W.Sink.held l.sink) done
    × (g.W.Sink.has_failed l.sink ≡ g.W.Sink.has_failed l.initial.sink)

abbrev pub decreases-loop-rest : goal.decreases-loop-rest
decreases-loop-rest g l = length l.rest
