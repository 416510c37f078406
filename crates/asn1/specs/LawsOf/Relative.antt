-- The laws of the contents octets of a RELATIVE-OID.
use Rattle.asn1_core.specs.EncodingLaws.{ContentLaws}
use Rattle.asn1_core.specs.LawsOf.Encodings.{basic_laws}
use Rattle.asn1.specs.RelativeValues.{relative_content}
use Rattle.asn1.specs.Lemmas.Relative.{relative_consumes, relative_read_back, relative_errors}

pub relative_laws : ContentLaws relative_content
relative_laws = basic_laws _ (record { consumes = relative_consumes; read_back = relative_read_back; errors = relative_errors })
