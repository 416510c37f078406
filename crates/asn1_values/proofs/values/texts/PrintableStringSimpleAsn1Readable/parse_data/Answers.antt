use Rattle.std.proofs.Common.{◌∙◌, sym}
use Rattle.asn1_values.specs.Lemmas.Texts.{printable_utf8}
use Rattle.asn1_values.proofs.values.texts.PrintableStringSimpleAsn1Readable.parse_data.Goals as goal

pub text_in-requires : goal.text_in-requires
text_in-requires c = λ holds. printable_utf8 c.args.«data».now (sym c.is_printable_text.ensures ∙ holds)
