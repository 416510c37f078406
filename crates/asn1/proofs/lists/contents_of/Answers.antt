use Rattle.asn1.proofs.MadeLists.{AreContents_ok, AreContents_err}
use Rattle.asn1.proofs.lists.contents_of.Goals as goal

pub returns-in_err-tlv : goal.returns-in_err-tlv
returns-in_err-tlv c tag content small is = AreContents_err c.args.octets.now tag content small is _ _ c.from_residual.ensures.1 c.in_err-tlv.ensures.exact.0

pub returns : goal.returns
returns c tag content small is = AreContents_ok c.args.octets.now tag content small is _ _ c.data.result c.known.ensures c.in_ok-tlv.ensures.exact c.data.ensures
