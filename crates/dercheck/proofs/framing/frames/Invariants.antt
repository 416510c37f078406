use Rattle.std.proofs.Common.{◌≡◌, ◌+◌, ◌*◌, ◌≤◌, ◌⊎◌, IsTrue}
use Rattle.dercheck.specs.Frames.{FramedTo, line_octets}
use Rattle.dercheck.proofs.framing.frames.Given as goal

-- the octets read so far were taken, and lines are kept only if a pull doesn't wait
abbrev pub invariant-pulls : goal.invariant-pulls
invariant-pulls g l =
    FramedTo l.pending (g.R.Source.left l.initial.r) (g.R.Source.left l.r) (g.W.Sink.held l.initial.w) (g.W.Sink.held l.w) (line_octets l.lines)
    × (g.R.Source.has_failed l.r ≡ g.R.Source.has_failed l.initial.r)
    × (g.W.Sink.has_failed l.w ≡ g.W.Sink.has_failed l.initial.w)
    × ((l.lines.count ≡ 0) ⊎ IsTrue (g.R.Source.ready l.r))
    × (l.lines.count + 62 * 256 ≤ 62 * 512)

abbrev pub decreases-pulls : goal.decreases-pulls
decreases-pulls g l = g.R.Source.bound l.r
