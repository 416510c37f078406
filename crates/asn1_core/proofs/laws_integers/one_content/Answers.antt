use Rattle.asn1_core.specs.Lemmas.Integers.{IsIntegerContent_integer_content, IsIntegerContent_only}
use Rattle.asn1_core.proofs.laws_integers.one_content.Goals as goal

pub returns : goal.returns
returns c = (IsIntegerContent_integer_content, IsIntegerContent_only)
