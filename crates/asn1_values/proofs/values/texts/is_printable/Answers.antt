use Rattle.std.proofs.Common.{ℕ, ◌/◌, ◌%◌, ◌^◌, ◌∙◌, eqb, ap}
use Rattle.asn1_values.specs.Lemmas.Texts.{low_printable, high_printable}
use Rattle.asn1_values.proofs.values.texts.is_printable.Goals as goal
use Rattle.asn1_values.proofs.values.texts.is_printable.Goals.{then-octet-lt64, else-octet-lt64}

pub returns-then-octet-lt128 : goal.returns-then-octet-lt128
returns-then-octet-lt128 c =
    let octet = c.args.octet in
    elim c.if-octet-lt64.branch [
      | then-octet-lt64 w ↦ ap (λ (characters : ℕ). eqb (characters / 2 ^ (octet % 64) % 2) 1) w.characters-is ∙ low_printable octet w.if-octet-lt64.true
      | else-octet-lt64 w ↦ ap (λ (characters : ℕ). eqb (characters / 2 ^ (octet % 64) % 2) 1) w.characters-is ∙ high_printable octet w.if-octet-lt64.false c.if-octet-lt128.true
    ]
