use Rattle.std.proofs.Common.{◌≡◌, ◌≤◌, ◌+◌, ◌*◌, ◌++◌, List, ℕ, length}
use Rattle.dercheck.specs.Frames.{line_octets, Stands, Taken}
use Rattle.dercheck.proofs.pending.Pending.take_octets.Given as goal

-- the octets before `rest` were taken, and the lines of `rest` fit
abbrev pub invariant-loop-rest : goal.invariant-loop-rest
invariant-loop-rest l =
    (done : List ℕ)
    × (done ++ l.rest ≡ l.octets)
    × ((octets : List ℕ) → Stands l.initial.self octets → Taken l.self (octets ++ done) (line_octets l.initial.lines) (line_octets l.lines))
    × (l.lines.count + 62 * length l.rest ≤ 62 * 512)

abbrev pub decreases-loop-rest : goal.decreases-loop-rest
decreases-loop-rest l = length l.rest
