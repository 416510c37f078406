use Rattle.std.proofs.Common.{◌++◌, ◌∙◌, ap, sym, append_assoc, refl}
use Rattle.asn1_for_c.proofs.Places.{Appends_append, in_capitals_step}
use Rattle.asn1_for_c.proofs.locations.push_words.Goals as goal

pub loop-octet-preserved : goal.loop-octet-preserved
loop-octet-preserved c =
    let so_far = c.loop-octet.invariant in (
      _,
      Appends_append _ _ _ _ _ _ _ _ _ so_far.1 c.push_letter.ensures refl,
      append_assoc so_far.0 _ _ ∙ ap (λ l. so_far.0 ++ l) (sym (in_capitals_step c.loop-octet.is_capital c.args.field.now c.loop-octet.octet-index c.loop-octet-test.true)) ∙ so_far.2,
    )
