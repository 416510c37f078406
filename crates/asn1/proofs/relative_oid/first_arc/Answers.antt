use Rattle.std.proofs.Common.{arith}
use Rattle.asn1_values.specs.Lemmas.Identifier.{leading_number_not_err}
use Rattle.asn1.proofs.relative_oid.first_arc.Goals as goal

pub unreachable-requires : goal.unreachable-requires
unreachable-requires c = leading_number_not_err c.args.octets.now _ (omega (arith, c.requires.some)) c.in-Err.ensures.0 c.requires.arcs
