-- Where octets are rejected.
use Rattle.std.specs.Prelude.{ℕ, List, Option, Some, None, Bool, true, false, Result, Ok, Err, ◌≡◌}
use Rattle.asn1.specs.Der.{Der}
use Rattle.asn1.specs.ErrorOctets.{IsErrorOctet}
use Rattle.asn1.specs.ReadError.{ReadError}
use Rattle.asn1.specs.Reading.{whole}

-- The error of a result, if it is one.
abbrev pub error_in : {M : Type 0} → Result M ReadError → Option ReadError
error_in (Ok value) = None
error_in (Err error) = Some error

-- The error with which octets are rejected that have to be the encoding of a value of a type.
abbrev pub rejected_as : {V : Type 0} → Der V → List ℕ → Option ReadError
rejected_as d octets = error_in (whole (d.read octets))

-- Octets are rejected, and the error is at this one.
pub record IsRejectedAt (rejected : List ℕ → Option ReadError) (octets : List ℕ) (octet : ℕ) : Type 0 where
  pub error : ReadError
  pub rejects : rejected octets ≡ Some error
  pub place : IsErrorOctet (λ input answer. answer ≡ rejected input) octets error octet

-- What a call leaves in the place for the octet of an error: that octet if it returns `true`, and else what it held.
abbrev pub LeavesOctet : (List ℕ → Option ReadError) → List ℕ → Bool → ℕ → ℕ → Type 0
LeavesOctet rejected octets true old new = IsRejectedAt rejected octets new
LeavesOctet rejected octets false old new = new ≡ old
