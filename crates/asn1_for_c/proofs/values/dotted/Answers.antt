use Rattle.asn1.specs.Identifier.{dotted_text}
use Rattle.asn1.specs.IdentifierValues.{identifier_of}
use Rattle.asn1_for_c.proofs.Calls.{inline_text_WritesInCalls}
use Rattle.asn1_for_c.proofs.values.dotted.Goals as goal

pub returns-in-Ok : goal.returns-in-Ok
returns-in-Ok c = inline_text_WritesInCalls c.new-text.result (dotted_text (identifier_of c.args.identifier.now)) c.write.new.self c.in-Ok.ensures.writes c.new-text.ensures.intact c.new-text.ensures.text
