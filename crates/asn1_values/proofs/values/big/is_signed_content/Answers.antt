use Rattle.std.proofs.Common.{arith}
use Rattle.asn1_values.specs.Lemmas.Big.{signed_test}
use Rattle.asn1_values.proofs.values.big.is_signed_content.Goals as goal

pub returns : goal.returns
returns c = signed_test c.is_integer_content.result c.args.octets.now (λ k. omega (arith, c.type_inv.octets k)) c.is_integer_content.ensures
