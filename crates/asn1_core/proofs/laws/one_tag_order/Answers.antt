use Rattle.asn1_core.proofs.TagOrder.{tag_order_is_answered}
use Rattle.asn1_core.proofs.laws.one_tag_order.Goals as goal

pub returns : goal.returns
returns c = tag_order_is_answered
