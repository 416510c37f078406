use Rattle.std.proofs.Common.{List, [], ℕ, arith}
use Rattle.asn1_core.specs.Tag.{explicit_tag_of}
use Rattle.asn1_core.specs.Element.{element, element_encoding}
use Rattle.asn1_core.specs.Reading.{simple, simple_out, whole}
use Rattle.asn1_core.specs.Lemmas.Contents.{simple_consumes, simple_read}
use Rattle.asn1_core.specs.Lemmas.Elements.{element_encoding_not_nil}
use Rattle.asn1_core.specs.Lemmas.Faults.{simple_errors, whole_errors}
use Rattle.asn1_core.proofs.Inside.{inside_consumes, inside_read_back, Returns_consumed, length_remaining_lt, Returns_ReturnsValue}
use Rattle.asn1_core.specs.Lemmas.Wholes.{IfErr_Returns}
use Rattle.asn1_core.proofs.parser.Parser.read_explicit_element.Goals as goal

pub returns-clause-found : goal.returns-clause-found
returns-clause-found g c =
    let d = g.T.Asn1Type.der in
    let tag = explicit_tag_of c.args.tag in
    let good : d.Meaning → Type 0 = λ m. d.valid m × d.allowed m in
    Returns_consumed d.meaning _ (λ m. element_encoding (element tag (d.encoding m))) good (simple tag (λ (o : List ℕ). whole (d.read o)))
    (simple_consumes tag d.encoding good (λ (o : List ℕ). whole (d.read o)) (inside_consumes d.encoding good d.read d.laws.consumes)) c.args.self.now _ _ c.are_octets.ensures c.read_explicit.ensures.answers

pub returns-clause-only : goal.returns-clause-only
returns-clause-only g c m rest lawful valid allowed short is =
    let d = g.T.Asn1Type.der in
    let tag = explicit_tag_of c.args.tag in
    Returns_ReturnsValue d _ c.read_explicit.result _ m rest (simple tag (λ (o : List ℕ). whole (d.read o)) c.args.self.now) c.read_explicit.ensures.answers
    (simple_read tag d.encoding (λ (o : List ℕ). whole (d.read o)) m c.args.self.now rest (omega arith) short (inside_read_back d.accepts d.encoding d.read m (d.laws.nothing_or_element m lawful valid) (d.laws.read_back m [] lawful valid allowed) short) is)

pub returns-clause-progress : goal.returns-clause-progress
returns-clause-progress g c =
    let d = g.T.Asn1Type.der in
    let tag = explicit_tag_of c.args.tag in
    length_remaining_lt d.meaning (λ m. element_encoding (element tag (d.encoding m))) (λ m. d.valid m × d.allowed m) c.args.self.now _ c.read_explicit.result (λ m good none. element_encoding_not_nil (element tag (d.encoding m)) none) (returns-clause-found g c)

pub returns-clause-no_memory_error : goal.returns-clause-no_memory_error
returns-clause-no_memory_error g c none =
    let d = g.T.Asn1Type.der in
    let tag = explicit_tag_of c.args.tag in
    let t = c.args.self.now in
    IfErr_Returns _ (simple_out tag d.runs_out t) c.read_explicit.result (simple tag (λ (o : List ℕ). whole (d.read o)) t) c.read_explicit.ensures.answers (simple_errors tag (λ (o : List ℕ). whole (d.read o)) (λ o. whole_errors (d.read o) (d.laws.errors o)) t) (λ places out. none (d.laws.memory _ places out.3))
