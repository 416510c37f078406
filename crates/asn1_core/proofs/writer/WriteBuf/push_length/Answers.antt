use Rattle.std.proofs.Common.{arith}
use Rattle.asn1_core.specs.Lemmas.Lengths.{length_octets_low}
use Rattle.asn1_core.proofs.writer.WriteBuf.push_length.Goals as goal

pub returns-clause-ok : goal.returns-clause-ok
returns-clause-ok c = rw (length_octets_low c.args.n (omega (arith, c.if-n-gt127.false))) c.push_byte.ensures.ok
