use Rattle.asn1_values.proofs.PlainTexts.{dotted_text_IsPlainText}
use Rattle.asn1_values.proofs.laws_identifiers.plain_texts_are_shown_again.Goals as goal

pub returns : goal.returns
returns c = dotted_text_IsPlainText
