use Rattle.std.proofs.Common.{refl, inr, arith}
use Rattle.asn1_core.specs.Tag.{universal}
use Rattle.asn1_core.specs.Element.{element}
use Rattle.asn1_core.specs.Integer.{integer_content}
use Rattle.asn1_core.proofs.Integers.{length_integer_content_le_9}
use Rattle.asn1_core.proofs.types.integers.is_short.Goals as goal

pub returns : goal.returns
returns c =
    let few = length_integer_content_le_9 c.args.number c.requires.least c.requires.greatest in
    inr (element (universal 2) (integer_content c.args.number), record { tag = omega arith; content = omega (arith, few) }, refl)
