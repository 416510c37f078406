use Rattle.std.proofs.Common.{◌≡◌, ◌-◌, ℕ, length, inl, inr, refl, ap, subst, ◌∙◌}
use Rattle.std.specs.Fn.{FnReturnsAt}
use Rattle.asn1_core.specs.Tlv.{element_of}
use Rattle.asn1.specs.ErrorOctets.{LeaveOpen}
use Rattle.asn1.proofs.error_octets.Rejected.is_behind.Goals as goal
use Rattle.asn1.proofs.error_octets.Rejected.is_behind.Goals.{else-octet-end-via-then-octet-end+else-octet-contents, else-octet-end-via-else-octet-end}

pub returns : goal.returns
returns g c = λ yes.
    let size = length c.args.self.now.octets.now in
    let end-is = c.saturating_sub-end.ensures in
    let contents-is : c.saturating_sub-contents.result ≡ size - length c.in-Ok.rest.now - length (element_of c.in-Ok.element).content =
    c.saturating_sub-contents.ensures ∙ (ap (λ (end : ℕ). end - length c.data.result.now) end-is ∙ ap (λ octets. size - length c.in-Ok.rest.now - length octets) c.data.ensures) in
    record {
      start = c.args.start;
      element = element_of c.in-Ok.element;
      rest = c.in-Ok.rest.now;
      is = rw (← c.split_at.ensures.back) c.in-Ok.ensures.exact;
      tag = c.in-Ok-from_bytes._tag;
      after = c.in-Ok-from_bytes.after.now;
      tag_is = rw (← c.split_at.ensures.back) c.in-Ok-from_bytes.ensures;
      behind = elim c.else-octet-end.branch [
        | else-octet-end-via-then-octet-end+else-octet-contents w ↦ inr (w.if-octet-contents.false ∙ contents-is)
        | else-octet-end-via-else-octet-end w ↦ inl (w.if-octet-end.false ∙ end-is)
      ];
      needed = subst (LeaveOpen (FnReturnsAt g.F.Fn c.args.self.now.rejects.now) c.args.self.now.octets.now c.args.self.now.error) c.saturating_sub.ensures (c.if-not-is_open.ensures refl);
      decided = c.is_decided.ensures yes;
    }
