use Rattle.asn1_core.proofs.Ordered.{order_is_answered}
use Rattle.asn1_core.proofs.laws.one_order.Goals as goal

pub returns : goal.returns
returns c = order_is_answered
