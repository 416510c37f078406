use Rattle.asn1_core.specs.Lemmas.NumberTexts.{AreNumberOctets_number_octets, AreNumberOctets_only}
use Rattle.asn1_core.specs.Lemmas.Lengths.{AreLengthOctets_length_octets, AreLengthOctets_only}
use Rattle.asn1_core.proofs.laws.one_encoding.Goals as goal

pub returns : goal.returns
returns c = record {
  numbers = (AreNumberOctets_number_octets, AreNumberOctets_only);
  lengths = (AreLengthOctets_length_octets, AreLengthOctets_only);
}
