use Rattle.std.proofs.Common.{refl}
use Rattle.asn1_core.specs.Lemmas.Tags.{constructed_bit}
use Rattle.asn1_core.proofs.tag.Tag.from_first_octet.Goals as goal

pub returns : goal.returns
returns c = rw (constructed_bit c.args.first, c.class_in.ensures) refl
