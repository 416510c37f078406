use Rattle.std.proofs.Common.{◌≡◌, ◌<◌, ◌≤◌, ◌⊎◌, ◌-◌, length, get_or, take, drop, sym, ap, ◌∙◌, inl, inr, arith}
use Rattle.std.proofs.lemmas.List.{take_rest, get_or-take}
use Rattle.asn1_core.specs.Base256.{number}
use Rattle.asn1_core.specs.Lemmas.Lengths.{leading_length_empty, leading_length_low, leading_length_bad_first, leading_length_long_length, long_length_short, long_length_not_shortest, long_length_found}
use Rattle.asn1_core.proofs.parser.read_length.Goals as goal
use Rattle.asn1_core.proofs.parser.read_length.Goals.{then-octets-eq0-via-then-octets-eq0, then-octets-eq0-via-else-octets-eq0+then-n-lt128}

pub returns-in_default : goal.returns-in_default
returns-in_default c = leading_length_empty c.args.octets.now (omega arith)

pub returns-then-first-lt128 : goal.returns-then-first-lt128
returns-then-first-lt128 c =
    let octets = c.args.octets.now in
    rw (c.from.ensures, take_rest octets 1) (leading_length_low octets c.in-len1-up.len_at_least c.if-first-lt128.true)

pub returns-then-first : goal.returns-then-first
returns-then-first c =
    let octets = c.args.octets.now in
    let bad : (get_or octets 0 0 ≡ 128) ⊎ (133 ≤ get_or octets 0 0) = elim c.then-first.either [ inl e ↦ inl e | inr h ↦ inr h.1 ] in
    leading_length_bad_first octets c.in-len1-up.len_at_least bad

pub returns-then-rest-count : goal.returns-then-rest-count
returns-then-rest-count c =
    let octets = c.args.octets.now in
    let rest = take_rest octets 1 in
    let long = leading_length_long_length octets c.in-len1-up.len_at_least (omega arith) (omega arith) in
    let fewer : length (drop 1 octets) < get_or octets 0 0 - 128 = omega (arith, ap length rest) in
    rw (c.from-count.ensures, rest) (long ∙ long_length_short (get_or octets 0 0 - 128) (drop 1 octets) fewer)

pub returns-then-octets-eq0 : goal.returns-then-octets-eq0
returns-then-octets-eq0 c =
    let octets = c.args.octets.now in
    let rest = take_rest octets 1 in
    let count = c.from-count.result in
    let long = leading_length_long_length octets c.in-len1-up.len_at_least (omega arith) (omega arith) in
    let enough : count ≤ length (drop 1 octets) = omega (arith, ap length rest) in
    let front : c.split_at.result.0.now ≡ take count (drop 1 octets) = c.split_at.ensures.front ∙ ap (λ xs. take count xs) rest in
    let some : 0 < count = omega arith in
    let first : get_or c.split_at.result.0.now 0 0 ≡ get_or (drop 1 octets) 0 0 = ap (λ xs. get_or xs 0 0) front ∙ get_or-take count (drop 1 octets) 0 0 some in
    let value : c.number_in-n.result ≡ number (take count (drop 1 octets)) = c.number_in-n.ensures ∙ ap number front in
    long ∙ rw (sym c.from-count.ensures) (long_length_not_shortest count (drop 1 octets) enough
    (elim c.then-octets-eq0.branch [ then-octets-eq0-via-then-octets-eq0 w ↦ inl (sym first ∙ w.if-octets-eq0.true) | then-octets-eq0-via-else-octets-eq0+then-n-lt128 w ↦ inr (rw (sym value) w.if-n-lt128.true) ]))

pub returns : goal.returns
returns c =
    let octets = c.args.octets.now in
    let rest = take_rest octets 1 in
    let count = c.from-count.result in
    let long = leading_length_long_length octets c.in-len1-up.len_at_least (omega arith) (omega arith) in
    let enough : count ≤ length (drop 1 octets) = omega (arith, ap length rest) in
    let front : c.split_at.result.0.now ≡ take count (drop 1 octets) = c.split_at.ensures.front ∙ ap (λ xs. take count xs) rest in
    let back : c.split_at.result.1.now ≡ drop count (drop 1 octets) = c.split_at.ensures.back ∙ ap (λ xs. drop count xs) rest in
    let some : 0 < count = omega arith in
    let first : get_or c.split_at.result.0.now 0 0 ≡ get_or (drop 1 octets) 0 0 = ap (λ xs. get_or xs 0 0) front ∙ get_or-take count (drop 1 octets) 0 0 some in
    let value : c.number_in-n.result ≡ number (take count (drop 1 octets)) = c.number_in-n.ensures ∙ ap number front in
    rw (back, value) (long ∙ rw (sym c.from-count.ensures) (long_length_found count (drop 1 octets) enough (λ e. c.if-octets-eq0.false (first ∙ e)) (rw (sym value) c.if-n-lt128.false)))
