use Rattle.std.proofs.Common.{rules, ap, ◌∙◌}
use Rattle.asn1_core.specs.declared.tag.Tag.{Tag}
use Rattle.asn1_core.specs.Tag.{implicit_tag_of}
use Rattle.asn1_core.proofs.Bodies.{KnowsLength_Announces, Appended_IsElementOf}
use Rattle.asn1_core.proofs.writer.Writer.write_implicit_element.Goals as goal

pub write_tlv-requires-clause-announced : goal.write_tlv-requires-clause-announced
write_tlv-requires-clause-announced g c =
    let d = g.T.Asn1Type.der in
    KnowsLength_Announces _ _ (d.content.encodings (d.meaning c.args.val.now)) (λ old new h. search rules) _ c.length_ahead.ensures

pub returns-clause-ok : goal.returns-clause-ok
returns-clause-ok g c =
    let d = g.T.Asn1Type.der in
    Appended_IsElementOf _ _ (d.content.encodings (d.meaning c.args.val.now)) (λ old new h. search rules) _ _ _ (c.implicit_tag-tag.ensures ∙ ap (λ (t : Tag). implicit_tag_of c.args.tag t) c.tag.ensures.value) c.write_tlv.ensures.ok
