use Rattle.std.proofs.Common.{◌∙◌, arith}
use Rattle.std.specs.Prelude.{FitsSigned}
use Rattle.std.specs.Int.{w128}
use Rattle.std.proofs.lemmas.Int.{to_z-of_z}
use Rattle.asn1_core.specs.Lemmas.Texts.{IsOctets_from_reads}
use Rattle.asn1_core.proofs.Integers.{signed_number_sign_extended}
use Rattle.asn1_core.proofs.types.integers.signed_number.Goals as goal

pub returns : goal.returns
returns c =
    let octets = c.args.octets.now in
    let number = c.from_be_bytes.result in
    let fits : FitsSigned w128 number = record { sfits = c.from_be_bytes.type_inv } in
    to_z-of_z w128 number fits ∙ signed_number_sign_extended c.sign_octet-sign.result octets c.copy_from_slice.new.self number (IsOctets_from_reads octets (λ k. omega (arith, c.type_inv.octets k))) c.requires.few c.sign_octet-sign.ensures c.copy_from_slice.ensures.after c.from_be_bytes.ensures
