-- What a `Tlv` means.
use Rattle.std.specs.Prelude.{ℕ, List, Result, Ok, Err}
use Rattle.std.specs.Borrow.{Bor}
use Rattle.asn1_core.specs.declared.parser.ParseErrorKind.{ParseErrorKind}
use Rattle.asn1_core.specs.declared.types.Tlv.{Tlv}
use Rattle.asn1_core.specs.Element.{Element, element}
use Rattle.asn1_core.specs.ReadError.{ReadError}

-- The tag and the contents octets of a `Tlv`, without their address in memory.
abbrev pub element_of : Tlv → Element
element_of tlv = element tlv.tag tlv.«data».now

-- The octets that a `Tlv` borrows as its full data.
abbrev pub full_octets : Tlv → List ℕ
full_octets tlv = tlv.full_data.now

-- What a call of `strip_tlv` returned, without the addresses of octets and the locations of an error.
abbrev pub stripped : Result (Tlv × Bor (List ℕ)) ReadError → Result (Element × List ℕ) ParseErrorKind
stripped (Ok x) = Ok (element_of x.0, x.1.now)
stripped (Err e) = Err e.kind
