use Rattle.std.proofs.Common.{refl, arith}
use Rattle.asn1_for_c.proofs.Places.{Appends_append, location_text_innermost}
use Rattle.asn1_for_c.proofs.locations.+push_places.Goals as goal

pub returns-in-len1-up : goal.returns-in-len1-up
returns-in-len1-up t c =
    Appends_append _ _ _ _ _ _ _ _ _ (Appends_append _ _ _ _ _ _ _ _ _ c.push_places.ensures c.push.ensures refl) c.push_place-in-len1-up.ensures (location_text_innermost c.args.places.now c.place-item-2.result (omega arith) c.place-item-2.is)
