use Rattle.asn1_values.proofs.TimeTexts.{utc_written, x509_written, instants_written}
use Rattle.asn1_values.proofs.laws_times.times_are_written.Goals as goal

pub returns-clause-utc : goal.returns-clause-utc
returns-clause-utc c = utc_written

pub returns-clause-x509 : goal.returns-clause-x509
returns-clause-x509 c = x509_written

pub returns-clause-general : goal.returns-clause-general
returns-clause-general c = instants_written
