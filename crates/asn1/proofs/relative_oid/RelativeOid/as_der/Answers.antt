use Rattle.asn1.specs.Lemmas.Relative.{IsRelativeForm_IsRelativeContent}
use Rattle.asn1.proofs.relative_oid.RelativeOid.as_der.Goals as goal

pub returns-clause-content : goal.returns-clause-content
returns-clause-content c = (IsRelativeForm_IsRelativeContent c.args.self.now.octets.now c.args.self.now.is_content).content

pub returns-clause-value : goal.returns-clause-value
returns-clause-value c = (IsRelativeForm_IsRelativeContent c.args.self.now.octets.now c.args.self.now.is_content).identifier
