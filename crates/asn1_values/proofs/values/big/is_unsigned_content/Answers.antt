use Rattle.std.proofs.Common.{◌∙◌, sym, arith}
use Rattle.asn1_values.specs.Lemmas.Big.{unsigned_test, none_unsigned}
use Rattle.asn1_values.proofs.values.big.is_unsigned_content.Goals as goal

pub returns-then-is_integer_content : goal.returns-then-is_integer_content
returns-then-is_integer_content c = unsigned_test c.args.octets.now (λ k. omega (arith, c.type_inv.octets k)) (sym c.is_integer_content.ensures ∙ c.if-is_integer_content.true)

pub returns-else-is_integer_content : goal.returns-else-is_integer_content
returns-else-is_integer_content c = none_unsigned c.is_integer_content.result c.args.octets.now c.is_integer_content.ensures c.if-is_integer_content.false
