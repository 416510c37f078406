use Rattle.asn1.proofs.MadeLists.{Fits_length_content}
use Rattle.asn1.proofs.laws.contents_are_short.Goals as goal

pub returns : goal.returns
returns c = Fits_length_content
