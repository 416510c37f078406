-- The right to read octets for good can be duplicated. Assumes `Logic`.
use Rattle.std.proofs.Common.{ℕ, List, []}
use seplogic.Ra.Ura.{Ura}
use base.Logic.{ent, sep}
use base.Shift.{Keyless}
use types.Logic.{Logic, sem}
use denote.Builtin.{u8}
use denote.Param.Send.{IsSync, array_sync, sendable}
use denote.Plain.{uint_row_laws}
use denote.RawPtr.{Ptr, block_of, count_of}
use denote.SharingLaws.{contraction}
use denote.Slice.{elements_shared, elements_shr_laws}
use mir.Syntax.{w8}
use Rattle.asn1_core.specs.Lasting.{lasting}

module _ {M : Type 1} {𝓤 : Ura M} (𝓛 : Logic 𝓤) where
  pub lasting_twice : (p : Ptr) (octets : List ℕ) → ent 𝓤 (sem 𝓛 (lasting p octets)) (sep 𝓤 (sem 𝓛 (lasting p octets)) (sem 𝓛 (lasting p octets)))
  lasting_twice p octets = contraction 𝓛 (elements_shared u8 octets (block_of p) (count_of p)) (elements_shr_laws u8 (uint_row_laws w8) octets (block_of p) (count_of p)) []

-- the right names no thread
pub lasting_keyless : (p : Ptr) (octets : List ℕ) → Keyless (lasting p octets)
lasting_keyless p octets =
    let octet : IsSync u8 = search sendable in
    ((array_sync u8 0 octet).shared octets (block_of p) (count_of p) []).1
