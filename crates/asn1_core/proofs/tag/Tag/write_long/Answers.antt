use Rattle.std.proofs.Common.{length, ap, arith}
use Rattle.asn1_core.specs.Base128.{number_octets}
use Rattle.asn1_core.specs.Lemmas.Numbers.{length_number_octets_le_5}
use Rattle.asn1_core.proofs.tag.Tag.write_long.Goals as goal

pub unreachable-requires : goal.unreachable-requires
unreachable-requires c =
    let long = c.in_default.ensures.short.0 in
    omega (arith, long, ap (λ n. length (number_octets n)) c.from.ensures, length_number_octets_le_5 c.args.self.value (omega arith))
