use Rattle.asn1_core.specs.Reads.{IsReadValue}
use Rattle.asn1_core.proofs.Inside.{Returns_consumed, consumes_read_value}
use Rattle.asn1.specs.Types.{default_der}
use Rattle.asn1.specs.InHand.{defaulted_inner}
use Rattle.asn1.proofs.DefaultSteps.{answers_default, stops_default}
use Rattle.asn1.proofs.wrappers.defaulted.DefaultedAsn1Readable.parse.Goals as goal

pub returns-clause-answers : goal.returns-clause-answers
returns-clause-answers g c =
    let d = g.T.Asn1Type.der in
    answers_default d.meaning d.encoding g.T.PartialEq.eq _ _ c.value.ensures (λ a. g.met.T.MeaningEq.tells a _) (λ w. w.inner) d.accepts d.read _ _ _ _ _ c.read_element-read.ensures.answers c.or_default.ensures

pub returns-clause-found : goal.returns-clause-found
returns-clause-found g c =
    let d = default_der defaulted_inner g.T.Asn1Type.der (g.T.Asn1Type.der.meaning g.D.DefaultValue.default) in
    Returns_consumed d.meaning _ d.encoding (IsReadValue d) d.read (consumes_read_value d) c.args.parser.now _ _ c.rest-octets.ensures.octets (returns-clause-answers g c)

pub returns-clause-stops : goal.returns-clause-stops
returns-clause-stops g c =
    let d = g.T.Asn1Type.der in
    stops_default d.meaning d.encoding g.T.PartialEq.eq (λ w. w.inner) _ d.accepts d.read _ _ _ _ _ _ c.read_element-read.ensures.answers c.read_element-read.ensures.stops c.or_default.ensures
