use Rattle.std.proofs.Common.{◌≡◌, ◌+◌, length, refl, arith}
use Rattle.asn1_core.specs.Tag.{identifier_octets}
use Rattle.asn1_core.specs.Length.{length_octets}
use Rattle.asn1_core.specs.Writing.{full_count}
use Rattle.asn1_core.proofs.writer.full_length.Goals as goal

header : (c : goal.After-checked_add) → c.encoded_length.result + c.count_length_octets.result ≡ length (identifier_octets c.args.tag) + length (length_octets c.args.content_length)
header c = rw (c.encoded_length.ensures.value, c.count_length_octets.ensures.value) refl

pub returns-clause-value : goal.returns-clause-value
unfolding full_count
returns-clause-value c = rw (← header c) c.checked_add.ensures

pub returns-clause-fits : goal.returns-clause-fits
unfolding full_count
returns-clause-fits c = λ small. omega (arith, header c, c.encoded_length.ensures.most, c.count_length_octets.ensures.most)
