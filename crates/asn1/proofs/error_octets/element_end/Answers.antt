use Rattle.asn1_core.specs.Tlv.{element_of}
use Rattle.asn1.proofs.error_octets.element_end.Goals as goal

pub returns-in-Ok : goal.returns-in-Ok
returns-in-Ok c = (element_of c.in-Ok._element, c.in-Ok.rest.now, rw (← c.split_at.ensures.back) c.in-Ok.ensures.exact, c.saturating_sub.ensures)
