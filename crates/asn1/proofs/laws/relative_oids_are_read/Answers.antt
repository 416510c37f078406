use Rattle.asn1.specs.Lemmas.Relative.{relative_read_back, relatives_are_read}
use Rattle.asn1.proofs.laws.relative_oids_are_read.Goals as goal

pub returns-clause-read : goal.returns-clause-read
returns-clause-read c = relatives_are_read

pub returns-clause-back : goal.returns-clause-back
returns-clause-back c = relative_read_back
