use Rattle.std.proofs.Common.{◌≡◌, if◌then◌else◌}
use Rattle.asn1_core.specs.Tag.{class_number}
use Rattle.asn1_core.specs.Lemmas.Tags.{class_number_lt, bit_cases}
use Rattle.asn1_core.specs.Lemmas.Lengths.{bit_or_first_octet}
use Rattle.asn1_core.proofs.tag.Tag.first_octet.Goals as goal
use Rattle.asn1_core.proofs.tag.Tag.first_octet.Goals.{then-self, else-self}

pub returns : goal.returns
returns c =
    let tag = c.args.self in
    let bit : c.if-self.constructed ≡ (if tag.constructed then 32 else 0) = elim c.if-self.branch [ then-self w ↦ rw w.if-self.true w.constructed-is | else-self w ↦ rw w.if-self.false w.constructed-is ] in
    rw (c.bits.ensures, bit) (bit_or_first_octet (class_number tag.class) (if tag.constructed then 32 else 0) c.args.low (class_number_lt tag.class) (bit_cases tag.constructed) c.requires)
