use Rattle.std.proofs.Common.{◌≡◌, ◌<◌, ◌^◌, length, Some, arith}
use Rattle.asn1_core.specs.Element.{element_encoding}
use Rattle.asn1_core.specs.Tlv.{element_of}
use Rattle.asn1_core.proofs.Bodies.{Some_length_element_encoding, GivesLength_one_encoding}
use Rattle.asn1_core.proofs.types.TlvAsn1Writable.encoded_length.Goals as goal

known : (c : goal.After-full_length) → c.full_length.result ≡ Some (length (element_encoding (element_of c.args.self.now)))
known c =
    let small : length c.data.result.now < 2 ^ 63 = omega (arith, c.data.type_inv) in
    Some_length_element_encoding _ c.args.self.now.tag c.args.self.now.«data».now _ (rw c.data.ensures at c.full_length.ensures.value) (rw c.data.ensures at (c.full_length.ensures.fits small))

pub returns : goal.returns
returns c = record { length = GivesLength_one_encoding _ _ _ (known c); known = known c }
