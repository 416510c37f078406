use Rattle.std.proofs.Common.{◌≡◌, ◌+◌, List, ℕ, [], ◌∷◌, ◌++◌, length, take, set, refl, sym, ap, subst, ◌∙◌, ⊎_elim, inl, inr, arith}
use Rattle.std.proofs.lemmas.List.{length-set, length-take, length-take-le, take-take}
use Rattle.asn1.specs.Element.{leading_element}
use Rattle.dercheck.specs.Frames.{StandsInHeader, StandsInContent, IsBegun, IsOpen, IsWhole, IsFault}
use Rattle.dercheck.proofs.States.{begun_whole, whole_within, take_set_next, element_with}
use Rattle.dercheck.proofs.pending.Pending.take_header.Goals as goal

pub read_header-requires : goal.read_header-requires
read_header-requires c =
    let p = c.args.self.now in
    omega (arith, p.few, length-take (p.count + 1) (set p.octets p.count c.args.octet))

pub returns-in-Open : goal.returns-in-Open
returns-in-Open c =
    let p = c.args.self.now in
    λ octets stands. ⊎_elim
    (λ (h : StandsInHeader p octets).
    let kept = take_set_next octets p.octets p.count c.args.octet (omega (arith, p.size, p.few)) h.kept in
    let open_header : IsOpen (take (p.count + 1) (set p.octets p.count c.args.octet)) c.in-Open.needed = c.in-Open.ensures in
    inl (record { stage = h.stage; kept = kept; short = ap leading_element kept ∙ open_header.short }))
    (λ (h : StandsInContent p octets). absurd cc)
    stands

pub returns-then-needed-eq0 : goal.returns-then-needed-eq0
returns-then-needed-eq0 c =
    let p = c.args.self.now in
    let octets = set p.octets p.count c.args.octet in
    λ text stands. ⊎_elim
    (λ (h : StandsInHeader p text).
    let kept = take_set_next text p.octets p.count c.args.octet (omega (arith, p.size, p.few)) h.kept in
    let whole : IsWhole (take (p.count + 1) octets) c.in-Whole.tag c.in-Whole.length c.in-Whole.needed = c.in-Whole.ensures in
    let begun : IsBegun (text ++ c.args.octet ∷ []) whole.tag whole.n whole.content = subst (λ (l : List ℕ). IsBegun l whole.tag whole.n whole.content) (sym kept) whole.begun in
    let within = whole_within text c.args.octet p.needed whole.tag whole.n whole.content h.short begun in
    let parts = begun_whole (text ++ c.args.octet ∷ []) whole.tag whole.n whole.content begun (omega (arith, whole.missing)) in
    let size : length (take (p.count + 1) octets) ≡ p.count + 1 = length-take-le (p.count + 1) octets (omega (arith, p.size, p.few, length-set p.octets p.count c.args.octet)) in
    record {
      element = element_with whole.tag whole.content;
      readable = parts.0;
      whole = parts.1;
      kept = sym (take-take c.in-Whole.tag (p.count + 1) octets (omega (arith, whole.within))) ∙ whole.tag_octets;
      count = omega (arith, whole.all);
    })
    (λ (h : StandsInContent p text). absurd cc)
    stands

pub returns-else-needed-eq0 : goal.returns-else-needed-eq0
returns-else-needed-eq0 c =
    let p = c.args.self.now in
    let octets = set p.octets p.count c.args.octet in
    λ text stands. ⊎_elim
    (λ (h : StandsInHeader p text).
    let kept = take_set_next text p.octets p.count c.args.octet (omega (arith, p.size, p.few)) h.kept in
    let whole : IsWhole (take (p.count + 1) octets) c.in-Whole.tag c.in-Whole.length c.in-Whole.needed = c.in-Whole.ensures in
    let begun : IsBegun (text ++ c.args.octet ∷ []) whole.tag whole.n whole.content = subst (λ (l : List ℕ). IsBegun l whole.tag whole.n whole.content) (sym kept) whole.begun in
    let within = whole_within text c.args.octet p.needed whole.tag whole.n whole.content h.short begun in
    let size : length (take (p.count + 1) octets) ≡ p.count + 1 = length-take-le (p.count + 1) octets (omega (arith, p.size, p.few, length-set p.octets p.count c.args.octet)) in
    let announced : whole.n ≡ c.in-Whole.length = omega (arith, whole.missing, whole.all) in
    inr (record {
      stage = refl;
      tag = whole.tag;
      content = whole.content;
      begun = subst (λ (n : ℕ). IsBegun (text ++ c.args.octet ∷ []) whole.tag n whole.content) announced begun;
      kept = sym (take-take c.in-Whole.tag (p.count + 1) octets (omega (arith, whole.within))) ∙ whole.tag_octets;
      some = omega arith;
      missing = omega (arith, whole.missing, whole.all);
    }))
    (λ (h : StandsInContent p text). absurd cc)
    stands

pub returns-in-Faulty : goal.returns-in-Faulty
returns-in-Faulty c =
    let p = c.args.self.now in
    λ octets stands. ⊎_elim
    (λ (h : StandsInHeader p octets).
    let kept = take_set_next octets p.octets p.count c.args.octet (omega (arith, p.size, p.few)) h.kept in
    let fault : IsFault (take (p.count + 1) (set p.octets p.count c.args.octet)) c.in-Faulty.kind = c.in-Faulty.ensures in
    subst (λ (l : List ℕ). IsFault l c.in-Faulty.kind) (sym kept) fault)
    (λ (h : StandsInContent p octets). absurd cc)
    stands
