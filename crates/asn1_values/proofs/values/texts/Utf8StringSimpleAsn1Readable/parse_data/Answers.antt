use Rattle.std.proofs.Common.{◌∙◌, ap, inl}
use Rattle.asn1_values.specs.Texts.{is_utf8_text}
use Rattle.asn1_values.specs.Lemmas.Texts.{IsUtf8_is_utf8_text, not_IsUtf8_is_utf8_text, read_text_ok, read_text_err}
use Rattle.asn1_values.proofs.values.texts.Utf8StringSimpleAsn1Readable.parse_data.Goals as goal

pub invariant_of-result : goal.invariant_of-result
invariant_of-result c = record { is_text = ap is_utf8_text c.in-Ok.ensures.cases.0 ∙ IsUtf8_is_utf8_text c.args.«data».now c.in-Ok.ensures.cases.1 }

pub returns-in-Ok : goal.returns-in-Ok
returns-in-Ok c = read_text_ok is_utf8_text c.args.«data».now c.in-Ok.text.now (IsUtf8_is_utf8_text c.args.«data».now c.in-Ok.ensures.cases.1) c.in-Ok.ensures.cases.0

pub returns-in-Err : goal.returns-in-Err
returns-in-Err c = inl (read_text_err is_utf8_text c.args.«data».now c.new.result (not_IsUtf8_is_utf8_text c.args.«data».now c.in-Err.ensures.cases.0) c.new.ensures)
