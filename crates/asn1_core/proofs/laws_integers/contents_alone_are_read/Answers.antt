use Rattle.asn1_core.specs.Lemmas.Integers.{reads_contents_alone}
use Rattle.asn1_core.proofs.laws_integers.contents_alone_are_read.Goals as goal

pub returns : goal.returns
returns c = reads_contents_alone
