use Rattle.asn1_values.specs.Lemmas.Times.{IsRejected_not_ok}
use Rattle.asn1.specs.Dates.{read_day}
use Rattle.asn1.specs.Lemmas.Dates.{read_day_IsDayText, day_rejected}
use Rattle.asn1.proofs.laws.dates_are_read.Goals as goal

pub returns-clause-read : goal.returns-clause-read
returns-clause-read c = record {
  returns = read_day_IsDayText;
  rejects = λ octets is none. IsRejected_not_ok (read_day octets) (day_rejected octets) (λ d e. none d ((read_day_IsDayText octets d is).0 e));
}

pub returns-clause-written : goal.returns-clause-written
returns-clause-written c octets d = (λ h. h, λ h. h)
