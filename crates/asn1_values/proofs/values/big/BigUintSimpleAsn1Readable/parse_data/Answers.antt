use Rattle.std.proofs.Common.{inl, arith}
use Rattle.asn1_values.specs.Lemmas.Big.{read_unsigned_IsUnsignedForm, read_unsigned_not_IsUnsigned}
use Rattle.asn1_values.proofs.values.big.BigUintSimpleAsn1Readable.parse_data.Goals as goal

pub returns-in-Some : goal.returns-in-Some
returns-in-Some c = read_unsigned_IsUnsignedForm c.args.«data».now c.in-Some.number.octets.now c.in-Some.number.is_content c.in-Some.ensures

pub returns-in-None : goal.returns-in-None
returns-in-None c = inl (read_unsigned_not_IsUnsigned c.args.«data».now c.new-in-None.result (λ k. omega (arith, c.type_inv.«data» k)) c.in-None.ensures c.new-in-None.ensures)
