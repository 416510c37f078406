use Rattle.asn1_values.proofs.TimeTexts.{utc_read, x509_read, instants_read}
use Rattle.asn1_values.proofs.laws_times.times_are_read.Goals as goal

pub returns-clause-utc : goal.returns-clause-utc
returns-clause-utc c = utc_read

pub returns-clause-x509 : goal.returns-clause-x509
returns-clause-x509 c = x509_read

pub returns-clause-general : goal.returns-clause-general
returns-clause-general c = instants_read
