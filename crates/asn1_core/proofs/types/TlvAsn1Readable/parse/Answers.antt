use Rattle.std.proofs.Common.{rules}
use Rattle.asn1_core.specs.Element.{element_encoding}
use Rattle.asn1_core.specs.Reading.{Returns, framed_element}
use Rattle.asn1_core.specs.Tlv.{element_of}
use Rattle.asn1_core.specs.Der.{Der, tlv_der}
use Rattle.asn1_core.specs.declared.types.Tlv.{Tlv}
use Rattle.asn1_core.specs.Reads.{IsReadValue}
use Rattle.asn1_core.proofs.Inside.{Returns_consumed, consumes_read_value}
use Rattle.asn1_core.proofs.types.TlvAsn1Readable.parse.Goals as goal

pub returns-clause-found : goal.returns-clause-found
returns-clause-found c =
    let d : Der Tlv = tlv_der element_of in
    let t = c.args.parser.now in
    let answers : Returns (λ v. (element_of v, c.read_tlv.new.self)) (λ places. ⊥) c.kind_as_error.result (framed_element t) = search rules in
    Returns_consumed element_of (λ places. ⊥) element_encoding (IsReadValue d) framed_element (consumes_read_value d) t _ _ c.are_octets.ensures answers
