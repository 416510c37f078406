use Rattle.asn1_core.proofs.Writable.{writable_closures}
use Rattle.asn1_core.proofs.writer.Writer.write_element.Goals as goal

pub write_element_or_part-requires : goal.write_element_or_part-requires
write_element_or_part-requires g c = writable_closures g.T.Asn1Type.der _ c.requires
