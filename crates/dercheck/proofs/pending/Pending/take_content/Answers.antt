use Rattle.std.proofs.Common.{◌≡◌, ◌++◌, length, ⊎_elim, inr, arith}
use Rattle.std.proofs.lemmas.List.{length-append}
use Rattle.dercheck.specs.Frames.{StandsInHeader, StandsInContent}
use Rattle.dercheck.proofs.States.{IsBegun_append, begun_whole, element_with}
use Rattle.dercheck.proofs.pending.Pending.take_content.Goals as goal

pub returns-then-count-self : goal.returns-then-count-self
returns-then-count-self c =
    λ octets size text stands. ⊎_elim
    (λ (h : StandsInHeader c.args.self.now text). absurd cc)
    (λ (h : StandsInContent c.args.self.now text).
    let content = h.content ++ octets in
    let sizes = length-append h.content octets in
    let begun = IsBegun_append text h.tag c.args.self.now.content_length h.content octets h.begun in
    let all : c.args.self.now.content_length ≡ length content = omega (arith, h.missing) in
    let parts = begun_whole (text ++ octets) h.tag c.args.self.now.content_length content begun all in
    record { element = element_with h.tag content; readable = parts.0; whole = parts.1; kept = h.kept; count = all })
    stands

pub returns : goal.returns
returns c =
    λ octets size text stands. ⊎_elim
    (λ (h : StandsInHeader c.args.self.now text). absurd cc)
    (λ (h : StandsInContent c.args.self.now text).
    let sizes = length-append h.content octets in
    inr (record {
      stage = h.stage;
      tag = h.tag;
      content = h.content ++ octets;
      begun = IsBegun_append text h.tag c.args.self.now.content_length h.content octets h.begun;
      kept = h.kept;
      some = omega arith;
      missing = omega (arith, h.missing);
    }))
    stands
