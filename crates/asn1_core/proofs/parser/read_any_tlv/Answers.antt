use Rattle.std.proofs.lemmas.Result.{err_from_is_err_and}
use Rattle.asn1_core.specs.Lemmas.Elements.{leading_element_tag_err, leading_element_length_err, leading_element_short, leading_element_leading_content}
use Rattle.asn1_core.proofs.parser.read_any_tlv.Goals as goal

pub returns-in_err-tag : goal.returns-in_err-tag
returns-in_err-tag c =
    let p = err_from_is_err_and c.from_residual.result c.from_residual.ensures.1 in
    rw (p.1, p.2) (record { answer = leading_element_tag_err c.args.octets.now c.in_err-tag.field-0.0 c.in_err-tag.ensures; parts = tt })

pub returns-in_err-n : goal.returns-in_err-n
returns-in_err-n c =
    let p = err_from_is_err_and c.from_residual-in_err-n.result c.from_residual-in_err-n.ensures.1 in
    rw (p.1, p.2) (record { answer = leading_element_length_err c.args.octets.now c.in_ok-tag.tag c.in_ok-tag.rest.now c.in_err-n.field-0.0 c.in_ok-tag.ensures c.in_err-n.ensures; parts = tt })

pub returns-then-rest-n : goal.returns-then-rest-n
returns-then-rest-n c =
    record { answer = leading_element_short c.args.octets.now c.in_ok-tag.tag c.in_ok-tag.rest.now c.in_ok-n.n c.in_ok-n.rest.now c.in_ok-tag.ensures c.in_ok-n.ensures c.if-rest-n.true; parts = tt }

pub cut-requires-clause-header : goal.cut-requires-clause-header
cut-requires-clause-header c = leading_element_leading_content c.args.octets.now c.in_ok-tag.tag c.in_ok-tag.rest.now c.in_ok-n.n c.in_ok-n.rest.now c.in_ok-tag.ensures c.in_ok-n.ensures
