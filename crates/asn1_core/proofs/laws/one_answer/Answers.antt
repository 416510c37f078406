use Rattle.asn1_core.specs.Lemmas.Numbers.{IsLeadingNumber_leading_number, leading_number_only}
use Rattle.asn1_core.specs.Lemmas.Tags.{IsLeadingTag_leading_tag, leading_tag_only}
use Rattle.asn1_core.specs.Lemmas.Lengths.{IsLeadingLength_leading_length, leading_length_only}
use Rattle.asn1_core.specs.Lemmas.Elements.{IsLeadingElement_leading_element, leading_element_only}
use Rattle.asn1_core.proofs.laws.one_answer.Goals as goal

pub returns : goal.returns
returns c = record {
  numbers = (IsLeadingNumber_leading_number, λ octets answer is a. leading_number_only octets answer a);
  tags = (IsLeadingTag_leading_tag, λ octets answer is a. leading_tag_only octets answer a);
  lengths = (IsLeadingLength_leading_length, leading_length_only);
  elements = (IsLeadingElement_leading_element, leading_element_only);
}
