-- What the program does with its arguments, what it shows of an object, and how it ends.
use Rattle.std.specs.Prelude.{ℕ, if◌then◌else◌, List, [], ◌∷◌, codes, String, string_bytes, Option, Some, None, Result, Ok, Err, ◌≡◌, ◌++◌, IsOk, ◌⊎◌, ⊤}
use Rattle.std.specs.List.{find}
use Rattle.std.specs.Str.{bytes_eq}
use Rattle.asn1.specs.Der.{Der}
use Rattle.asn1.specs.Reading.{whole}
use Rattle.pkix_text.specs.declared.answers.Answer.{Answer}
use Rattle.pkix_text.specs.declared.answers.Answer.TheVariants.{Read, Shown, Rejected}
use Rattle.pkix_text.specs.declared.answers.Fault.{Fault}
use Rattle.pkix_text.specs.declared.answers.Fault.TheVariants.{Memory, Write}
use Rattle.pkix_text.specs.declared.answers.Report.{Report}
use Rattle.pkix_text.specs.declared.kinds.Kind.{Kind}
use Rattle.pkix_text.specs.declared.kinds.Kind.TheVariants as kinds
use Rattle.pkix_text.specs.declared.program.Asked.{Asked}
use Rattle.pkix_text.specs.declared.program.Asked.TheVariants.{Help, Objects}
use Rattle.pkix_text.specs.declared.show.Page.{Page}

abbrev pub kind_name : Kind → List ℕ
kind_name kinds.Certificate = codes "certificate"
kind_name kinds.Crl = codes "crl"
kind_name kinds.Request = codes "request"
kind_name kinds.Key = codes "key"
kind_name kinds.Signature = codes "signature"
kind_name kinds.TimestampRequest = codes "timestamp-request"
kind_name kinds.TimestampResponse = codes "timestamp-response"

abbrev pub every_kind : List Kind
every_kind = kinds.Certificate ∷ kinds.Crl ∷ kinds.Request ∷ kinds.Key ∷ kinds.Signature ∷ kinds.TimestampRequest ∷
    kinds.TimestampResponse ∷ []

-- the kind with that name
abbrev pub kind_named : List ℕ → Option Kind
kind_named name = find (λ kind. bytes_eq (kind_name kind) name) every_kind

-- the objects of one kind, if a name names one
abbrev pub objects_of : Option Kind → Option Asked
objects_of (Some kind) = Some (Objects (Some kind))
objects_of None = None

-- what arguments ask for: none for the objects of any kind, one for help or for the objects of the kind that it names
abbrev pub ask_of : {A : Type 0} → List (String A) → Option Asked
ask_of [] = Some (Objects None)
ask_of (word ∷ []) = if bytes_eq (string_bytes word) (codes "--help") then Some Help else
    objects_of (kind_named (string_bytes word))
ask_of (first ∷ second ∷ more) = None

-- 0 if each object was shown, 1 if there is a reason why one was rejected, 2 if there was no result
abbrev pub status_by : List ℕ → ℕ
status_by [] = 0
status_by (code ∷ reasons) = 1

-- The status: 0 if each object was shown, 1 if there is a reason why one was rejected, 2 if there was no answer.
abbrev pub status_of : Option (Result Report Fault) → ℕ
status_of (Some (Ok report)) = status_by (string_bytes report.reasons)
status_of (Some (Err fault)) = 2
status_of None = 2

-- ---- the result for an object, by the type that reads it

-- The octets are the encoding of a value of the type.
abbrev pub IsRead : {V : Type 0} → Der V → List ℕ → Type 0
IsRead der octets = IsOk (whole (der.read octets))

-- The last line is `same`.
abbrev pub EndsInSame : List ℕ → Type 0
EndsInSame octets = (front : List ℕ) × (octets ≡ front ++ codes "same\n")

-- What is read or shown has the form, and the last line that is shown is `same`. What has the form may be rejected: an
-- encrypted key may have the form of another object.
abbrev pub IsShownOnlyIf : Type 0 → Answer → Type 0
IsShownOnlyIf Form Read = Form
IsShownOnlyIf Form (Shown octets) = Form × EndsInSame (string_bytes octets)
IsShownOnlyIf Form (Rejected refusal) = ⊤

-- ---- why there is no result

-- There was no memory, or the lines couldn't be written.
abbrev pub IsMemoryOrWrite : Fault → Type 0
IsMemoryOrWrite fault = (fault ≡ Memory) ⊎ (fault ≡ Write)

-- The same; without a page nothing is written.
abbrev pub IsFaultOf : Option Page → Fault → Type 0
IsFaultOf None fault = fault ≡ Memory
IsFaultOf (Some page) fault = IsMemoryOrWrite fault
