use Rattle.std.proofs.Common.{rules, Ok, subst}
use Rattle.asn1_core.specs.Base256.{IsOctets}
use Rattle.asn1_core.specs.Der.{Der}
use Rattle.asn1_core.specs.Element.{element_encoding}
use Rattle.asn1_core.specs.Reads.{IsReadValue, ReadsWhole}
use Rattle.asn1_core.specs.Tag.{implicit_tag_of}
use Rattle.asn1_core.specs.Tlv.{element_of}
use Rattle.asn1_core.specs.Lemmas.Wholes.{Returns_whole_ok}
use Rattle.asn1_core.proofs.Inside.{consumes_read_value}
use Rattle.asn1.specs.Types.{changed_der}
use Rattle.asn1.proofs.alternatives.ImplicitTagAlternativeReadable.read.Goals as goal

pub returns-clause-found : goal.returns-clause-found
returns-clause-found g c =
    let d : Der g.row.T.Denot = changed_der (implicit_tag_of g.row.TAG) (λ value. value) g.T.Asn1Type.der in
    let octets = element_encoding (element_of c.args.tlv) in
    let exact : ReadsWhole d octets (Ok c.in_ok-value.value) = search rules in
    Returns_whole_ok d.meaning (d.runs_out octets) d.encoding (IsReadValue d) d.read (consumes_read_value d) octets (Ok c.in_ok-value.value) (subst IsOctets c.full_data-octets.ensures.whole c.known.ensures) exact
