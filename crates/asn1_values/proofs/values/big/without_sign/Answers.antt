use Rattle.std.proofs.Common.{◌≡◌, ◌⊎◌, Bool, get_or, refl, sym, ◌∙◌, inl, inr}
use Rattle.std.specs.Prelude.{int_lt, pos}
use Rattle.std.proofs.lemmas.Bool.{eqb-true, eqb-false}
use Rattle.std.proofs.lemmas.List.{take_rest}
use Rattle.asn1_core.specs.Base256.{signed_number}
use Rattle.asn1_values.proofs.Bits.{IsMagnitude_whole, IsMagnitude_without_sign}
use Rattle.asn1_values.proofs.values.big.without_sign.Goals as goal
use Rattle.asn1_values.proofs.values.big.without_sign.Goals.{then-octets-eq0, else-octets-eq0}

pub returns-then-octets-clause-magnitude : goal.returns-then-octets-clause-magnitude
returns-then-octets-clause-magnitude c =
    let octets = c.args.octets.now in
    let b : Bool = int_lt (signed_number octets) (pos 0) in
    let way : (get_or octets 0 0 ≡ 0) ⊎ (get_or octets 0 0 ≡ 255) = elim c.if-octets-eq0.branch [ then-octets-eq0 w ↦ inl w.if-octets-eq0.true | else-octets-eq0 w ↦ inr (eqb-true (get_or octets 0 0) 255 (sym w.value-is ∙ c.if-octets.true)) ] in
    rw (take_rest octets 1) (IsMagnitude_without_sign octets b c.requires refl way)

pub returns-else-octets-clause-magnitude : goal.returns-else-octets-clause-magnitude
returns-else-octets-clause-magnitude c =
    let octets = c.args.octets.now in
    let b : Bool = int_lt (signed_number octets) (pos 0) in
    let neither : (get_or octets 0 0 ≡ 0 → ⊥) × (get_or octets 0 0 ≡ 255 → ⊥) = elim c.if-octets-eq0.branch [
      | then-octets-eq0 w ↦ absurd (eqb-false (get_or octets 0 0) 0 (sym w.value-is ∙ c.if-octets.false) w.if-octets-eq0.true)
      | else-octets-eq0 w ↦ (w.if-octets-eq0.false, eqb-false (get_or octets 0 0) 255 (sym w.value-is ∙ c.if-octets.false))
    ] in
    IsMagnitude_whole octets b c.requires refl neither.0 neither.1
