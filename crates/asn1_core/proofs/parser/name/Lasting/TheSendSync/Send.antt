use denote.Param.Send.{IsSend, owning_send}
use Rattle.asn1_core.proofs.Lasting.{lasting_keyless}
use Rattle.asn1_core.specs.contracts.parser.name.Lasting as C

pub send : IsSend C.the_row
send = owning_send C.the_type tt (λ s. lasting_keyless s.start s.octets) (λ k x w. tt)
