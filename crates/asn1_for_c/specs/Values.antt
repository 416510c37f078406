-- The values of include/asn1.h.
use Rattle.std.specs.Prelude.{ℕ, ◌≡◌, ◌-◌, ◌⊎◌, ℤ, pos, nat_le, if◌then◌else◌, List, length, Option, Some, None, Result, Ok, Err}
use Rattle.asn1.specs.Bits.{Bits}
use Rattle.asn1.specs.ReadError.{ReadError}
use Rattle.asn1.specs.Identifier.{dotted_text}
use Rattle.asn1.specs.Times.{Moment}
use Rattle.asn1.specs.declared.ParseErrorKind.TheVariants.{AllocationError}
use Rattle.asn1_for_c.specs.declared.errors.Asn1Error.{Asn1Error}
use Rattle.asn1_for_c.specs.declared.values.Asn1Bits.{Asn1Bits}
use Rattle.asn1_for_c.specs.declared.values.Asn1Time.{Asn1Time}
use Rattle.asn1_for_c.specs.Errors.{error_of, without_details, buffer_too_small}
use Rattle.asn1_for_c.specs.Texts.{LeavesText}

-- How many bits an integer of C may have.
abbrev pub IsWidth : ℕ → Type 0
IsWidth bits = (bits ≡ 8) ⊎ (bits ≡ 16) ⊎ (bits ≡ 32) ⊎ (bits ≡ 64)

-- What a place for a number without a sign holds after a call, and what the call tells, if reading gives this.
abbrev pub LeavesNatural : ℕ → ℕ → Asn1Error → Result ℤ ReadError → Type 0
LeavesNatural old new found (Ok value) = (pos new ≡ value) × (found ≡ without_details 0)
LeavesNatural old new found (Err fault) = (new ≡ old) × (found ≡ error_of fault.kind)

-- The bits of a bit string that is at the end of these octets.
abbrev pub bits_in : List ℕ → Bits → Asn1Bits
bits_in octets b = record { start = length octets - length b.octets; count = length b.octets; padding = b.padding }

-- What is shown of a date and time with this fraction.
abbrev pub fraction : Option ℕ → ℕ
fraction (Some nanoseconds) = nanoseconds
fraction None = 0

-- The struct of a time: its moment, and its nanoseconds or 0.
abbrev pub shown_time : Moment → Option ℕ → Asn1Time
shown_time m nanoseconds = record { year = m.year; month = m.month; day = m.day; hour = m.hour; minute = m.minute; second = m.second; nanoseconds = fraction nanoseconds }

-- What a call leaves in a buffer, and how many octets the dotted text has, if reading gives this: the text, a buffer
-- that is too small, or a text that is too long for the library.
abbrev pub LeavesDotted : List ℕ → List ℕ → ℕ → Asn1Error → Result (List ℕ) ReadError → Type 0
LeavesDotted old new count found (Ok numbers) =
    (LeavesText (dotted_text numbers) old new count
    × (found ≡ without_details (if nat_le (length (dotted_text numbers)) (length old) then 0 else buffer_too_small)))
    ⊎ ((new ≡ old) × (count ≡ 0) × (found ≡ error_of AllocationError))
LeavesDotted old new count found (Err fault) = (new ≡ old) × (count ≡ 0) × (found ≡ error_of fault.kind)
