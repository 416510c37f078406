use Rattle.std.proofs.Common.{length, ap, arith}
use Rattle.asn1_core.specs.Base128.{number_octets}
use Rattle.asn1_core.specs.Lemmas.Numbers.{length_number_octets_le_5}
use Rattle.asn1_core.proofs.tag.Tag.encoded_length.Goals as goal

pub returns-else-self-from-clause-most : goal.returns-else-self-from-clause-most
returns-else-self-from-clause-most c = omega (arith, c.length.ensures.encoding, ap (λ n. length (number_octets n)) c.from-else-self-from.ensures, length_number_octets_le_5 c.args.self.value (omega arith))
