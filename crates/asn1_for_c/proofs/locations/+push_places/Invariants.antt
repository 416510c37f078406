use Rattle.std.proofs.Common.{length}
use Rattle.asn1_for_c.proofs.locations.+push_places.Given as goal

abbrev pub decreases-push_places : goal.decreases-push_places
decreases-push_places l = length l.places.now
