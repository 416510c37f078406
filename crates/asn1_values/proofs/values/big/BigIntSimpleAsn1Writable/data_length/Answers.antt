use Rattle.std.proofs.Common.{◌≡◌, ℕ, length, Some, ap}
use Rattle.asn1_core.specs.Integer.{integer_content}
use Rattle.asn1_core.specs.Base256.{signed_number}
use Rattle.asn1_core.proofs.Bodies.{GivesLength_one_encoding}
use Rattle.asn1_values.specs.Lemmas.Big.{IsSignedForm_IsSigned, length_integer_content}
use Rattle.asn1_values.proofs.values.big.BigIntSimpleAsn1Writable.data_length.Goals as goal

pub returns : goal.returns
returns c =
    let same = length_integer_content c.args.self.now.octets.now (IsSignedForm_IsSigned c.args.self.now.octets.now c.args.self.now.is_content) in
    let exact : Some (length c.args.self.now.octets.now) ≡ Some (length (integer_content (signed_number c.args.self.now.octets.now))) = ap (λ (n : ℕ). Some n) same in
    record { known = GivesLength_one_encoding _ _ _ exact; exact = exact }
