-- Contents octets of the same number are the same.
use Rattle.std.proofs.Common.{◌≡◌, ◌↔◌, IsTrue, ℕ, List, nat_eq, sym, ap, ◌∙◌}
use Rattle.std.specs.Cmp.Lexicographic.{pointwise}
use Rattle.std.proofs.lemmas.Bool.Decides.{Decides-like}
use Rattle.std.proofs.lemmas.Slice.Eq.{bytes_eq-Decides}
use Rattle.asn1_core.specs.Base256.{signed_number}
use Rattle.asn1_core.specs.Integer.{integer_content}
use Rattle.asn1_values.specs.Big.{IsSignedForm}
use Rattle.asn1_values.specs.Lemmas.Big.{IsSigned_integer_content, IsSignedForm_IsSigned}

pub signed_number_injective : (a b : List ℕ) → IsSignedForm a → IsSignedForm b → signed_number a ≡ signed_number b → a ≡ b
signed_number_injective a b f g same = IsSigned_integer_content a (IsSignedForm_IsSigned a f) ∙ ap integer_content same ∙ sym (IsSigned_integer_content b (IsSignedForm_IsSigned b g))

pub signed_number_pointwise : (a b : List ℕ) → IsSignedForm a → IsSignedForm b → IsTrue (pointwise nat_eq a b) ↔ (signed_number a ≡ signed_number b)
signed_number_pointwise a b f g = Decides-like (pointwise nat_eq a b) (ap signed_number) (signed_number_injective a b f g) (bytes_eq-Decides a b)
