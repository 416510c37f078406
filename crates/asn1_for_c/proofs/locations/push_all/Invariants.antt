use Rattle.std.proofs.Common.{take}
use Rattle.asn1_for_c.specs.Locations.{Appends}
use Rattle.asn1_for_c.proofs.locations.push_all.Given as goal

abbrev pub invariant-loop-octet : goal.invariant-loop-octet
invariant-loop-octet l = Appends (take l.octet-index l.octets) l.fn.buffer l.fn.count l.buffer l.count
