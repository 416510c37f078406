use Rattle.std.proofs.Common.{◌∙◌, arith, length-take-le}
use Rattle.asn1_core.proofs.Kept.{within_eight_locations}
use Rattle.asn1_core.proofs.parser.ParseError.add_location.Goals as goal

pub returns-then-self-eq-MAX_PLACES : goal.returns-then-self-eq-MAX_PLACES
returns-then-self-eq-MAX_PLACES c =
    rw (← c.self.view_is) (within_eight_locations c.self.inside.kind _ _ (length-take-le c.self.inside.depth c.self.inside.places (omega (arith, c.self.invariant.0, c.self.invariant.1)) ∙ c.if-self-eq-MAX_PLACES.true))
