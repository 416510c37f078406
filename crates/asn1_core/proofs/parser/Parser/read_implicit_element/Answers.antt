use Rattle.std.proofs.Common.{arith}
use Rattle.asn1_core.specs.Tag.{implicit_tag_of}
use Rattle.asn1_core.specs.Element.{element, element_encoding}
use Rattle.asn1_core.specs.Reading.{simple, simple_out}
use Rattle.asn1_core.specs.Lemmas.Contents.{simple_consumes, simple_read}
use Rattle.asn1_core.specs.Lemmas.Elements.{element_encoding_not_nil}
use Rattle.asn1_core.specs.Lemmas.Faults.{simple_errors}
use Rattle.asn1_core.proofs.Inside.{Returns_consumed, length_remaining_lt, Returns_ReturnsValue}
use Rattle.asn1_core.specs.Lemmas.Wholes.{IfErr_Returns}
use Rattle.asn1_core.proofs.parser.Parser.read_implicit_element.Goals as goal

pub returns-clause-found : goal.returns-clause-found
returns-clause-found g c =
    let d = g.T.Asn1Type.der in
    let k = d.content in
    let tag = implicit_tag_of c.args.tag k.tag in
    let good : d.Meaning → Type 0 = λ m. k.valid m × k.allowed m in
    Returns_consumed d.meaning _ (λ m. element_encoding (element tag (k.encoding m))) good (simple tag k.read)
    (simple_consumes tag k.encoding good k.read d.laws.of_content.consumes) c.args.self.now _ _ c.are_octets.ensures c.read_implicit.ensures.answers

pub returns-clause-only : goal.returns-clause-only
returns-clause-only g c m rest lawful valid allowed short is =
    let d = g.T.Asn1Type.der in
    let k = d.content in
    let tag = implicit_tag_of c.args.tag k.tag in
    Returns_ReturnsValue d _ c.read_implicit.result _ m rest (simple tag k.read c.args.self.now) c.read_implicit.ensures.answers
    (simple_read tag k.encoding k.read m c.args.self.now rest (omega arith) short (d.laws.of_content.read_back m lawful valid allowed short) is)

pub returns-clause-progress : goal.returns-clause-progress
returns-clause-progress g c =
    let d = g.T.Asn1Type.der in
    let k = d.content in
    let tag = implicit_tag_of c.args.tag k.tag in
    length_remaining_lt d.meaning (λ m. element_encoding (element tag (k.encoding m))) (λ m. k.valid m × k.allowed m) c.args.self.now _ c.read_implicit.result (λ m good none. element_encoding_not_nil (element tag (k.encoding m)) none) (returns-clause-found g c)

pub returns-clause-no_memory_error : goal.returns-clause-no_memory_error
returns-clause-no_memory_error g c none =
    let d = g.T.Asn1Type.der in
    let k = d.content in
    let tag = implicit_tag_of c.args.tag k.tag in
    let t = c.args.self.now in
    IfErr_Returns _ (simple_out tag k.runs_out t) c.read_implicit.result (simple tag k.read t) c.read_implicit.ensures.answers (simple_errors tag k.read d.laws.of_content.errors t) (λ places out. none (d.laws.as_memory (d.laws.of_content.memory _ places out.3)))
