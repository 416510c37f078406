use Rattle.std.proofs.Common.{◌≡◌, ◌-◌, ℕ, length, refl, ap, subst, ◌∙◌, arith}
use Rattle.std.specs.Fn.{FnReturnsAt}
use Rattle.asn1_core.specs.Tlv.{element_of}
use Rattle.asn1.specs.ErrorOctets.{Decide, IsInnermost}
use Rattle.asn1.proofs.error_octets.Rejected.is_at_element.Goals as goal

pub returns : goal.returns
returns g c = λ yes.
    let end-is = c.saturating_sub-end.ensures in
    let start-is : c.saturating_sub-start.result ≡ length c.args.self.now.octets.now - length c.in-Ok.rest.now - length (element_of c.in-Ok.element).content =
    c.saturating_sub-start.ensures ∙ (ap (λ (end : ℕ). end - length c.data.result.now) end-is ∙ ap (λ octets. length c.args.self.now.octets.now - length c.in-Ok.rest.now - length octets) c.data.ensures) in
    record {
      element = element_of c.in-Ok.element;
      rest = c.in-Ok.rest.now;
      is = rw (← c.split_at.ensures.back) c.in-Ok.ensures.exact;
      left_open = c.if-not-is_open.ensures refl;
      decided = subst (Decide (FnReturnsAt g.F.Fn c.args.self.now.rejects.now) c.args.self.now.octets.now c.args.self.now.error) end-is (c.if-not-is_decided.ensures refl);
      count = c.args.count;
      turn = c.if-not-is_turn.ensures refl;
      behind = omega (arith, c.if-octet-count.false);
      before = rw (← end-is) c.if-count-end.false;
      there = c.if-not-is_read_at.ensures refl;
      innermost = subst (λ (start : ℕ). IsInnermost (FnReturnsAt g.F.Fn c.args.self.now.rejects.now) c.args.self.now.octets.now c.args.self.now.error (element_of c.in-Ok.element) start c.args.count) start-is (c.is_innermost.ensures yes);
    }
