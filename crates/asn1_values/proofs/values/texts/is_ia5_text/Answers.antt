use Rattle.asn1_values.specs.Lemmas.Texts.{ascii_decided}
use Rattle.asn1_values.proofs.values.texts.is_ia5_text.Goals as goal

pub returns : goal.returns
returns c = ascii_decided c.is_ascii.result c.args.octets.now c.is_ascii.ensures.cases
