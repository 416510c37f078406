use Rattle.std.proofs.Common.{◌∙◌, Ok, sym, ap, subst, inl, arith}
use Rattle.std.proofs.lemmas.Bool.{both_ways}
use Rattle.asn1_core.specs.Base256.{signed_number}
use Rattle.asn1_values.specs.Big.{IsUnsigned, IsUnsignedForm}
use Rattle.asn1_values.specs.Values.{unsigned_content}
use Rattle.asn1_values.specs.Lemmas.Big.{IsUnsigned_IsUnsignedForm, read_unsigned_not_IsUnsigned, IsErrorOf_owned_out, read_unsigned_ok}
use Rattle.asn1_values.proofs.values.owned.OwnedBigUintSimpleAsn1Readable.parse_data.Goals as goal

pub returns-then-not-is_unsigned_content : goal.returns-then-not-is_unsigned_content
returns-then-not-is_unsigned_content c =
    let none : IsUnsigned c.args.«data».now → ⊥ = λ h. both_ways c.is_unsigned_content.result c.if-not-is_unsigned_content.true (c.is_unsigned_content.ensures.1 h) in
    inl (read_unsigned_not_IsUnsigned c.args.«data».now c.new.result (λ k. omega (arith, c.type_inv.«data» k)) none c.new.ensures)

pub invariant_of-result : goal.invariant_of-result
invariant_of-result c =
    let form = IsUnsigned_IsUnsignedForm c.args.«data».now (c.is_unsigned_content.ensures.0 c.if-not-is_unsigned_content.false) in
    record { is_content = subst IsUnsignedForm (sym c.in-Ok.ensures.items) form }

pub returns-in-Ok : goal.returns-in-Ok
returns-in-Ok c =
    let is = c.is_unsigned_content.ensures.0 c.if-not-is_unsigned_content.false in
    read_unsigned_ok c.args.«data».now is ∙ ap (λ t. Ok (signed_number t)) (sym c.in-Ok.ensures.items)

pub returns-in-Err : goal.returns-in-Err
returns-in-Err c =
    let is = c.is_unsigned_content.ensures.0 c.if-not-is_unsigned_content.false in
    IsErrorOf_owned_out unsigned_content.read unsigned_content.runs_out c.args.«data».now (signed_number c.args.«data».now) c.new-in-Err.result (read_unsigned_ok c.args.«data».now is) c.new-in-Err.ensures
