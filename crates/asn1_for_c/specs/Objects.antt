-- The objects of include/asn1.h, by their numbers.
use Rattle.std.specs.Prelude.{ℕ, ◌==◌, List, Option, None, ◌≡◌}
use Rattle.std.specs.List.{find}
use Rattle.asn1_for_c.specs.declared.errors.Asn1Error.{Asn1Error}
use Rattle.asn1_for_c.specs.declared.objects.Object.{Object}
use Rattle.asn1_for_c.specs.declared.objects.Object.TheVariants as objects
use Rattle.asn1_for_c.specs.declared.objects.TheConstants.Object.{ALL}
use Rattle.asn1_for_c.specs.Types.{Form, ChecksForm}

-- The number of an object, as `include/asn1.h` has it.
abbrev pub object_number : Object → ℕ
object_number objects.Certificate = 1
object_number objects.Crl = 2
object_number objects.Request = 3
object_number objects.PublicKey = 4
object_number objects.PrivateKey = 5
object_number objects.EcPrivateKey = 6
object_number objects.RsaPrivateKey = 7
object_number objects.RsaPublicKey = 8
object_number objects.EcdsaSignature = 9
object_number objects.DigestInfo = 10
object_number objects.SignedData = 11
object_number objects.TimestampRequest = 12
object_number objects.TimestampResponse = 13

-- The object with this number.
abbrev pub object_numbered : ℕ → Option Object
object_numbered number = find (λ one. object_number one == number) ALL.now

-- The number of a key in any of its forms.
abbrev pub key_number : ℕ
key_number = 14

-- The number of a signature in any of its forms.
abbrev pub signature_number : ℕ
signature_number = 15

-- No object has this number.
abbrev pub IsNoObject : ℕ → Type 0
IsNoObject number = (object_numbered number ≡ None) × ¬ (number ≡ key_number) × ¬ (number ≡ signature_number)

-- What is told of octets at one form is right of another.
abbrev pub TellsOf : Form → Form → List ℕ → Type 0
TellsOf one all octets = (number : ℕ) (error : Asn1Error) (location : List ℕ) → ChecksForm one octets number error location → ChecksForm all octets number error location
