use Rattle.std.proofs.Common.{map, sym, ◌∙◌}
use Rattle.std.proofs.lemmas.Simd.{map-map}
use Rattle.std.specs.List.{AllByRecursion}
use Rattle.asn1.proofs.headline.sets_tell_multisets.Goals as goal

-- The octets of each set are its encoding.
pub returns-clause-sets : goal.returns-clause-sets
returns-clause-sets g c = (
  rw c.new-first.ensures at (c.in_ok-octets.ensures.encoding c.requires.plain),
  rw c.new-second.ensures at (c.in_ok-others_octets.ensures.encoding c.requires.plain),
)

pub returns-clause-tell : goal.returns-clause-tell
returns-clause-tell g c =
    let d = g.T.Asn1Type.der in
    let vs = c.args.items.now in
    let ws = c.args.others.now in
    let valid : AllByRecursion d.valid (map d.meaning vs) = rw (← c.new-first.ensures) c.known.ensures in
    let others_valid : AllByRecursion d.valid (map d.meaning ws) = rw (← c.new-second.ensures) c.known-2.ensures in
    let tell = c.equal_multisets.ensures.values c.requires.lawful c.requires.element (map d.meaning vs) (map d.meaning ws) valid others_valid in
    let sets = returns-clause-sets g c in (
      λ e. rw (map-map d.encoding d.meaning vs, map-map d.encoding d.meaning ws) at (tell.0 (sym sets.0 ∙ (e ∙ sets.1))),
      λ same. sets.0 ∙ (tell.1 (rw (← map-map d.encoding d.meaning vs, ← map-map d.encoding d.meaning ws) at same) ∙ sym sets.1),
    )
