use Rattle.std.proofs.Common.{◌≡◌, ℕ, length, Some, ap, arith}
use Rattle.asn1_core.specs.Integer.{integer_content}
use Rattle.asn1_core.specs.Base256.{signed_number}
use Rattle.asn1_values.specs.Lemmas.Big.{IsUnsignedForm_IsUnsigned, length_integer_content}
use Rattle.asn1_values.proofs.values.owned.OwnedBigUintSimpleAsn1Writable.data_length.Goals as goal

pub returns : goal.returns
returns c =
    let items = c.args.self.now.octets.items in
    let same = length_integer_content items (IsUnsignedForm_IsUnsigned c.args.self.now.octets.items c.args.self.now.is_content).0 in
    let count : c.len.result ≡ length (integer_content (signed_number items)) = omega (arith, c.len.ensures, c.args.self.now.octets.ok.0, same) in
    ap (λ (n : ℕ). Some n) count
