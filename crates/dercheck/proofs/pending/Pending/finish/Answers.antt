use Rattle.std.proofs.Common.{◌≡◌, [], length, IsTrue, false, sym, ap, subst, arith}
use Rattle.std.specs.Io.KnownBytes.{Appends}
use Rattle.dercheck.specs.Streams.{AppendsInPart}
use Rattle.dercheck.proofs.Steps.{Stands_ShortData, Stands_nonempty, end_line_short}
use Rattle.dercheck.proofs.pending.Pending.finish.Goals as goal

pub returns-then-not-put_short-clause-cut : goal.returns-then-not-put_short-clause-cut
returns-then-not-put_short-clause-cut g c =
    let p = c.args.self.now in
    λ octets stands. subst (AppendsInPart (g.W.Sink.held c.args.sink.now) (g.W.Sink.held c.put_short.new.sink))
    (sym (end_line_short octets p.needed (Stands_nonempty p octets stands c.if-self-eq0.false) (Stands_ShortData p octets stands))) c.if-not-put_short.ensures.0

pub returns-clause-answer : goal.returns-clause-answer
returns-clause-answer g c =
    let p = c.args.self.now in
    λ octets stands. (
      λ (w : IsTrue false). absurd cc,
      λ (none : octets ≡ []). absurd (omega (arith, Stands_nonempty p octets stands c.if-self-eq0.false, ap length none)),
    )

pub returns-clause-line : goal.returns-clause-line
returns-clause-line g c =
    let p = c.args.self.now in
    λ octets stands. subst (Appends (g.W.Sink.held c.args.sink.now) (g.W.Sink.held c.put_short.new.sink))
    (sym (end_line_short octets p.needed (Stands_nonempty p octets stands c.if-self-eq0.false) (Stands_ShortData p octets stands))) c.if-not-put_short.ensures.0
