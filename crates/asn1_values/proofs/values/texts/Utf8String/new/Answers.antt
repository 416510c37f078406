use Rattle.asn1_values.specs.Lemmas.Texts.{IsUtf8_is_utf8_text}
use Rattle.asn1_values.proofs.values.texts.Utf8String.new.Goals as goal

pub invariant_of-result : goal.invariant_of-result
invariant_of-result c = record { is_text = IsUtf8_is_utf8_text c.args.text.now c.utf8.text }
