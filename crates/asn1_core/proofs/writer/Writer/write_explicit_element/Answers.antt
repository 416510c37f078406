use Rattle.std.proofs.Common.{rules}
use Rattle.asn1_core.proofs.Bodies.{Appended_IsElementOf}
use Rattle.asn1_core.proofs.writer.Writer.write_explicit_element.Goals as goal

pub returns-clause-ok : goal.returns-clause-ok
returns-clause-ok g c =
    let d = g.T.Asn1Type.der in
    Appended_IsElementOf _ _ (d.encodings (d.meaning c.args.val.now)) (λ old new h. search rules) _ _ _ c.explicit_tag-tag.ensures c.write_tlv.ensures.ok
