use Rattle.std.proofs.Common.{◌∙◌, ◌-◌, ℕ, List, length, take, drop, get_or, refl, sym, ap, inl}
use Rattle.std.proofs.lemmas.Bool.{both_ways}
use Rattle.asn1_values.specs.Bits.{is_padded, bits}
use Rattle.asn1_values.specs.BitStrings.{bits_content}
use Rattle.asn1_values.specs.Lemmas.Big.{IsErrorOf_owned_out}
use Rattle.asn1_values.specs.Lemmas.Bits.{read_bits_empty, read_bits_ok, read_bits_err}
use Rattle.asn1_values.proofs.bit_string.OwnedBitStringSimpleAsn1Readable.parse_data.Goals as goal

pub returns-in_default : goal.returns-in_default
returns-in_default c = inl (read_bits_empty c.args.«data».now c.new.result c.in_default.len_below c.new.ensures)

pub returns-then-not-has_padding : goal.returns-then-not-has_padding
returns-then-not-has_padding c =
    let test = c.has_padding.result in
    let refused = c.if-not-has_padding.true in
    inl (read_bits_err c.args.«data».now c.new-then-not-has_padding.result c.in-len1-up.len_at_least (λ h. both_ways test refused (c.has_padding.ensures ∙ h)) c.new-then-not-has_padding.ensures)

pub invariant_of-result : goal.invariant_of-result
invariant_of-result c =
    let padding = get_or c.args.«data».now 0 0 in
    record { is_bits = ap (is_padded padding) c.in-Ok.ensures.items ∙ sym c.has_padding.ensures ∙ c.if-not-has_padding.false }

pub returns-in-Ok : goal.returns-in-Ok
returns-in-Ok c =
    let padding = get_or c.args.«data».now 0 0 in
    let is = ap (is_padded padding) c.in-Ok.ensures.items ∙ sym c.has_padding.ensures ∙ c.if-not-has_padding.false in
    read_bits_ok c.args.«data».now (bits c.in-Ok.octets.items padding) c.in-len1-up.len_at_least is (ap (λ (t : List ℕ). bits t padding) c.in-Ok.ensures.items)

pub returns-in-Err : goal.returns-in-Err
returns-in-Err c =
    let octets = c.args.«data».now in
    let read = bits (take (length octets - 1) (drop 1 octets)) (get_or octets 0 0) in
    let is = read_bits_ok octets read c.in-len1-up.len_at_least (sym c.has_padding.ensures ∙ c.if-not-has_padding.false) refl in
    IsErrorOf_owned_out bits_content.read bits_content.runs_out octets read c.new-in-Err.result is c.new-in-Err.ensures
