use Rattle.asn1.specs.Lemmas.Relative.{IsRelativeForm_IsRelativeContent}
use Rattle.asn1.proofs.relative_oid.RelativeOidAsn1Type.known.Goals as goal

pub returns : goal.returns
returns c = (IsRelativeForm_IsRelativeContent c.args.self.now.octets.now c.args.self.now.is_content).identifier
