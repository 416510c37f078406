use Rattle.std.proofs.lemmas.Grind.{take_at_read}
use Rattle.asn1_for_c.proofs.Places.{Appends_append}
use Rattle.asn1_for_c.proofs.locations.push_all.Goals as goal

pub loop-octet-preserved : goal.loop-octet-preserved
loop-octet-preserved c =
    Appends_append _ _ _ _ _ _ _ _ _ c.loop-octet.invariant c.push.ensures (take_at_read c.args.octets.now c.loop-octet.octet-index 0 c.loop-octet-test.true).1
