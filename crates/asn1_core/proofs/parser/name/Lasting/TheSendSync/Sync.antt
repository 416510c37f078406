use denote.Param.Send.{IsSync, struct_sync}
use denote.Struct.Owning.{shape}
use Rattle.asn1_core.proofs.Lasting.{lasting_keyless}
use Rattle.asn1_core.specs.contracts.parser.name.Lasting as C

pub sync : IsSync C.the_row
sync = record { shared = λ s b o κ. ((struct_sync (shape C.the_type) tt).shared tt b o κ, lasting_keyless s.start s.octets) }
