use Rattle.std.proofs.Common.{◌≡◌, ◌+◌, ◌<◌, ◌≤◌, ◌⊎◌, IsTrue, Bool, [], inl, inr, length, take, rules, refl, sym, ap, subst, ◌∙◌, arith}
use Rattle.std.proofs.lemmas.Bool.{leb-true}
use Rattle.std.proofs.lemmas.List.{length-take}
use Rattle.std.specs.Io.KnownBytes.{Appends}
use Rattle.dercheck.specs.declared.answers.Fault.TheVariants.{Write}
use Rattle.dercheck.specs.declared.frame_lines.Lines.{Lines}
use Rattle.dercheck.specs.Streams.{AppendsInPart}
use Rattle.dercheck.specs.Frames.{FramedTo, line_octets}
use Rattle.dercheck.proofs.Steps.{framed_none, framed_more, framed_put, framed_so_far, framed_fault, framed_in_part, finish_ok, finish_cut}
use Rattle.dercheck.proofs.framing.frames.Goals as goal

-- lines are kept only if a pull gives octets
none_kept : (lines : Lines) (ready : Bool) → (lines.count ≡ 0) ⊎ IsTrue ready → ¬ IsTrue ready → line_octets lines ≡ []
none_kept lines ready (inl none) waits = ap (λ n. take n lines.octets) none
none_kept lines ready (inr is) waits = absurd (waits is)

pub pulls-init : goal.pulls-init
pulls-init g c =
    let left = g.R.Source.left c.args.r.now in
    let held = g.W.Sink.held c.args.w.now in
    let pending = c.new-pending.result in
    let lines = c.new-lines.result in (
      subst (FramedTo pending left left held held) {x = []} {y = line_octets lines} (ap (λ n. take n lines.octets) {x = 0} {y = lines.count} (omega (arith, c.new-lines.ensures.count))) (framed_none pending left held c.new-pending.ensures),
      refl,
      refl,
      inl c.new-lines.ensures.count,
      omega (arith, c.new-lines.ensures.count),
    )

pub returns-in_default-clause-read : goal.returns-in_default-clause-read
returns-in_default-clause-read g c =
    let l0 = g.R.Source.left c.args.r.now in
    let l1 = g.R.Source.left c.pulls.r in
    let h0 = g.W.Sink.held c.args.w.now in
    let h1 = g.W.Sink.held c.pulls.w in
    let some : 0 < length c.pull.new.buf = search rules in
    let none = none_kept c.pulls.lines (g.R.Source.ready c.pulls.r) c.pulls.invariant.3 (λ ready. c.in_default.ensures.ready ready some) in
    λ _. framed_so_far c.pulls.pending l0 l1 (g.R.Source.left c.pull.new.self) h0 h1 (subst (FramedTo c.pulls.pending l0 l1 h0 h1) none c.pulls.invariant.0) c.in_default.ensures.octets

pub returns-then-count-eq0-clause-ok : goal.returns-then-count-eq0-clause-ok
returns-then-count-eq0-clause-ok g c =
    let l0 = g.R.Source.left c.args.r.now in
    let l1 = g.R.Source.left c.pulls.r in
    let h0 = g.W.Sink.held c.args.w.now in
    let h1 = g.W.Sink.held c.pulls.w in
    let octets = take c.in-Some.count c.pull.new.buf in
    let none : length octets ≡ 0 = omega (arith, length-take c.in-Some.count c.pull.new.buf) in
    let some : 0 < length c.pull.new.buf = search rules in
    let kept = none_kept c.pulls.lines (g.R.Source.ready c.pulls.r) c.pulls.invariant.3 (λ ready. omega (arith, c.in-Some.ensures.ready ready some, c.if-count-eq0.true)) in
    finish_ok c.pulls.pending l0 l1 (g.R.Source.left c.pull.new.self) h0 h1 (g.W.Sink.held c.finish.new.sink)
    octets c.finish.result (subst (FramedTo c.pulls.pending l0 l1 h0 h1) kept c.pulls.invariant.0) c.in-Some.ensures.octets.0 none (c.in-Some.ensures.octets.1 c.if-count-eq0.true some) c.finish.ensures.answer c.finish.ensures.line

pub returns-then-count-eq0-clause-write : goal.returns-then-count-eq0-clause-write
returns-then-count-eq0-clause-write g c =
    let l0 = g.R.Source.left c.args.r.now in
    let l1 = g.R.Source.left c.pulls.r in
    let h0 = g.W.Sink.held c.args.w.now in
    let h1 = g.W.Sink.held c.pulls.w in
    let octets = take c.in-Some.count c.pull.new.buf in
    let none : length octets ≡ 0 = omega (arith, length-take c.in-Some.count c.pull.new.buf) in
    let some : 0 < length c.pull.new.buf = search rules in
    let kept = none_kept c.pulls.lines (g.R.Source.ready c.pulls.r) c.pulls.invariant.3 (λ ready. omega (arith, c.in-Some.ensures.ready ready some, c.if-count-eq0.true)) in
    λ e. finish_cut c.pulls.pending l0 l1 (g.R.Source.left c.pull.new.self) h0 h1 (g.W.Sink.held c.finish.new.sink)
    octets c.finish.result Write (subst (FramedTo c.pulls.pending l0 l1 h0 h1) kept c.pulls.invariant.0) c.in-Some.ensures.octets.0 none c.finish.ensures.cut e

pub pulls-preserved-then-is_ready : goal.pulls-preserved-then-is_ready
pulls-preserved-then-is_ready g c = (
  framed_more c.pulls.pending c.take_octets-goes_on.new.self (g.R.Source.left c.args.r.now) (g.R.Source.left c.pulls.r) (g.R.Source.left c.pull.new.self) (g.W.Sink.held c.args.w.now) (g.W.Sink.held c.pulls.w)
      (take c.in-Some.count c.pull.new.buf) (line_octets c.pulls.lines) (line_octets c.take_octets-goes_on.new.lines) c.pulls.invariant.0 c.in-Some.ensures.octets.0 (c.take_octets-goes_on.ensures.goes_on c.if-goes_on.true),
  c.in-Some.ensures.flag ∙ c.pulls.invariant.1,
  c.pulls.invariant.2,
  inr (sym c.is_ready.ensures ∙ c.if-is_ready.true),
  omega (arith, leb-true (c.take_octets-goes_on.new.lines.count + 15872) 31744 (sym c.has_room.ensures ∙ c.if-has_room.true)),
)

pub returns-then-not-put_all-clause-write : goal.returns-then-not-put_all-clause-write
returns-then-not-put_all-clause-write g c =
    λ _. framed_in_part c.pulls.pending c.take_octets-goes_on.new.self (g.R.Source.left c.args.r.now) (g.R.Source.left c.pulls.r) (g.R.Source.left c.pull.new.self) (g.W.Sink.held c.args.w.now) (g.W.Sink.held c.pulls.w) (g.W.Sink.held c.put_all.new.sink)
    (take c.in-Some.count c.pull.new.buf) (line_octets c.pulls.lines) (line_octets c.take_octets-goes_on.new.lines) c.take_octets-goes_on.result c.pulls.invariant.0 c.in-Some.ensures.octets.0
    c.take_octets-goes_on.ensures.goes_on c.take_octets-goes_on.ensures.fault (subst (AppendsInPart (g.W.Sink.held c.pulls.w) (g.W.Sink.held c.put_all.new.sink)) c.octets.ensures c.if-not-put_all.ensures.0)

pub returns-then-not-goes_on-clause-ok : goal.returns-then-not-goes_on-clause-ok
returns-then-not-goes_on-clause-ok g c =
    let octets = take c.in-Some.count c.pull.new.buf in
    let room : length c.pull.new.buf ≡ 256 = search rules in
    let few : length octets ≤ 256 = omega (arith, length-take c.in-Some.count c.pull.new.buf) in
    framed_fault c.pulls.pending (g.R.Source.left c.args.r.now) (g.R.Source.left c.pulls.r) (g.R.Source.left c.pull.new.self) (g.W.Sink.held c.args.w.now) (g.W.Sink.held c.pulls.w) (g.W.Sink.held c.put_all.new.sink)
    octets (line_octets c.pulls.lines) (line_octets c.take_octets-goes_on.new.lines) c.pulls.invariant.0 c.in-Some.ensures.octets.0 few (c.take_octets-goes_on.ensures.fault c.if-not-goes_on.true)
    (subst (Appends (g.W.Sink.held c.pulls.w) (g.W.Sink.held c.put_all.new.sink)) c.octets.ensures c.if-not-put_all.ensures.0)

pub pulls-preserved : goal.pulls-preserved
pulls-preserved g c =
    let l0 = g.R.Source.left c.args.r.now in
    let l2 = g.R.Source.left c.pull.new.self in
    let h0 = g.W.Sink.held c.args.w.now in
    let h1 = g.W.Sink.held c.pulls.w in
    let h2 = g.W.Sink.held c.put_all.new.sink in
    let pending = c.take_octets-goes_on.new.self in
    let made = line_octets c.take_octets-goes_on.new.lines in
    let more = framed_more c.pulls.pending pending l0 (g.R.Source.left c.pulls.r) l2 h0 h1 (take c.in-Some.count c.pull.new.buf) (line_octets c.pulls.lines) made c.pulls.invariant.0 c.in-Some.ensures.octets.0
    (c.take_octets-goes_on.ensures.goes_on c.if-not-goes_on.false) in
    let put = framed_put pending l0 l2 h0 h1 h2 made more (subst (Appends h1 h2) c.octets.ensures c.if-not-put_all.ensures.0) in (
      subst (FramedTo pending l0 l2 h0 h2) (sym c.clear.ensures.octets) put,
      c.in-Some.ensures.flag ∙ c.pulls.invariant.1,
      c.if-not-put_all.ensures.1 ∙ c.pulls.invariant.2,
      inl c.clear.ensures.count,
      omega (arith, c.clear.ensures.count),
    )
