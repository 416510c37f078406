use Rattle.std.proofs.Common.{rules}
use Rattle.asn1_core.proofs.Bodies.{KnowsLength_Announces, Appended_IsElementOf}
use Rattle.asn1_core.proofs.types.AnyAsn1Writable.write.Goals as goal

pub write_tlv-requires-clause-announced : goal.write_tlv-requires-clause-announced
write_tlv-requires-clause-announced g c =
    let d = g.T.Asn1Type.der in
    KnowsLength_Announces _ _ (d.content.encodings (d.meaning c.args.self.now)) (λ old new h. search rules) _ c.length_ahead.ensures

pub returns-clause-ok : goal.returns-clause-ok
returns-clause-ok g c =
    let d = g.T.Asn1Type.der in
    let m = d.meaning c.args.self.now in
    rw (d.laws.as_encodings c.tag.ensures.simple m) (Appended_IsElementOf _ _ (d.content.encodings m) (λ old new h. search rules) _ _ _ c.tag.ensures.value c.write_tlv.ensures.ok)
