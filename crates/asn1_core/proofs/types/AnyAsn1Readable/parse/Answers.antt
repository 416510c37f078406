use Rattle.std.proofs.Common.{◌≡◌, Err, inl, sym, ap, subst, ◌∙◌}
use Rattle.asn1_core.specs.declared.tag.Tag.{Tag}
use Rattle.asn1_core.specs.Reading.{expected_contents}
use Rattle.asn1_core.specs.Lemmas.Results.{simple_refusal}
use Rattle.asn1_core.specs.Reads.{IsReadValue}
use Rattle.asn1_core.proofs.Inside.{Returns_consumed, Returns_simple_type, consumes_read_value}
use Rattle.asn1_core.proofs.types.AnyAsn1Readable.parse.Goals as goal

pub returns-in-Err-clause-answers : goal.returns-in-Err-clause-answers
returns-in-Err-clause-answers g c =
    let d = g.T.Asn1Type.der in
    let t = c.args.parser.now in
    let refused : expected_contents d.content.tag t ≡ Err c.in-Err.kind = ap (λ (tag : Tag). expected_contents tag t) (sym c.tag.ensures.value) ∙ c.in-Err.ensures.answers in
    inl (rw c.new.ensures (d.laws.as_read c.tag.ensures.simple t ∙ simple_refusal d.content.tag d.content.read t c.in-Err.kind refused))

pub returns-in-Ok-clause-answers : goal.returns-in-Ok-clause-answers
returns-in-Ok-clause-answers g c =
    let d = g.T.Asn1Type.der in
    let t = c.args.parser.now in
    let found = ap (λ (tag : Tag). expected_contents tag t) (sym c.tag.ensures.value) ∙ c.in-Ok.ensures.answers in
    Returns_simple_type d c.tag.ensures.simple t _ _ c.parse_data.result found c.parse_data.ensures

pub returns-in-Ok-clause-found : goal.returns-in-Ok-clause-found
returns-in-Ok-clause-found g c =
    let d = g.T.Asn1Type.der in
    let t = c.args.parser.now in
    Returns_consumed d.meaning _ d.encoding (IsReadValue d) d.read (consumes_read_value d) t _ _ c.are_octets.ensures (returns-in-Ok-clause-answers g c)
