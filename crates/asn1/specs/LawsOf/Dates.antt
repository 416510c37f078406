-- The laws of the contents octets of a DATE.
use Rattle.asn1_core.specs.EncodingLaws.{ContentLaws}
use Rattle.asn1_core.specs.LawsOf.Encodings.{basic_laws}
use Rattle.asn1.specs.DateValues.{date_content}
use Rattle.asn1.specs.Lemmas.Dates.{day_consumes, day_read_back, day_errors}

pub date_laws : ContentLaws date_content
date_laws = basic_laws _ (record { consumes = day_consumes; read_back = day_read_back; errors = day_errors })
