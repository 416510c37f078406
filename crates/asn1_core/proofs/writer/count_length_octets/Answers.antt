use Rattle.std.proofs.Common.{length, refl, ap, ◌∙◌, arith}
use Rattle.asn1_core.specs.Lemmas.Lengths.{length_octets_low}
use Rattle.asn1_core.proofs.writer.count_length_octets.Goals as goal

pub returns-then-n-lt128-clause-value : goal.returns-then-n-lt128-clause-value
returns-then-n-lt128-clause-value c = rw (length_octets_low c.args.n c.if-n-lt128.true) refl

pub returns-clause-value : goal.returns-clause-value
returns-clause-value c = ap length (c.octets.ensures ∙ c.new.ensures.encoding)

pub returns-clause-most : goal.returns-clause-most
returns-clause-most c = omega (arith, c.new.ensures.most, ap length c.octets.ensures)
