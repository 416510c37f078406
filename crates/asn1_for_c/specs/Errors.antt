-- The errors of include/asn1.h: their numbers and details.
use Rattle.std.specs.Prelude.{ℕ, false, Result, Ok, Err}
use Rattle.asn1.specs.declared.ParseErrorKind.{ParseErrorKind}
use Rattle.asn1.specs.declared.ParseErrorKind.TheVariants.{InvalidValue, InvalidTag, InvalidLength, InvalidSize, UnexpectedTag, ShortData, IntegerOverflow, ExtraData, InvalidSetOrdering, EncodedDefault, OidTooLong, UnknownDefinedBy, AllocationError}
use Rattle.asn1.specs.Tag.{tag_class, tag_constructed, tag_number, class_number}
use Rattle.asn1.specs.ReadError.{ReadError}
use Rattle.asn1_for_c.specs.declared.errors.Asn1Error.{Asn1Error}

-- The numbers of the kinds of errors.
abbrev pub kind_number : ParseErrorKind → ℕ
kind_number InvalidValue = 1
kind_number InvalidTag = 2
kind_number InvalidLength = 3
kind_number (InvalidSize min max actual) = 4
kind_number (UnexpectedTag actual) = 5
kind_number (ShortData needed) = 6
kind_number IntegerOverflow = 7
kind_number ExtraData = 8
kind_number InvalidSetOrdering = 9
kind_number EncodedDefault = 10
kind_number OidTooLong = 11
kind_number UnknownDefinedBy = 12
kind_number AllocationError = 13

-- The numbers of this library's own errors: a number that no type has, and a buffer that is too small.
abbrev pub unknown_type : ℕ
unknown_type = 64

-- The number of the error that says that a buffer has no room.
abbrev pub buffer_too_small : ℕ
buffer_too_small = 65

-- An error without details. The number 0 says that there is no error.
abbrev pub without_details : ℕ → Asn1Error
without_details number = record { number = number; tag_number = 0; tag_class = 0; tag_constructed = false; needed = 0; min = 0; max = 0; actual = 0 }

-- An error of this kind, with its details.
abbrev pub error_of : ParseErrorKind → Asn1Error
error_of (InvalidSize min max actual) = record { number = 4; tag_number = 0; tag_class = 0; tag_constructed = false; needed = 0; min = min; max = max; actual = actual }
error_of (UnexpectedTag actual) = record { number = 5; tag_number = tag_number actual; tag_class = class_number (tag_class actual); tag_constructed = tag_constructed actual; needed = 0; min = 0; max = 0; actual = 0 }
error_of (ShortData needed) = record { number = 6; tag_number = 0; tag_class = 0; tag_constructed = false; needed = needed; min = 0; max = 0; actual = 0 }
error_of kind = without_details (kind_number kind)

-- What is told of a result.
abbrev pub told : {A : Type 0} → Result A ParseErrorKind → Asn1Error
told (Ok value) = without_details 0
told (Err kind) = error_of kind

-- The same of a result whose error has locations, which are left out.
abbrev pub told_read : {A : Type 0} → Result A ReadError → Asn1Error
told_read (Ok value) = without_details 0
told_read (Err fault) = error_of fault.kind

-- What a place for values holds after a call: the value of a result, or what it held before if there is an error.
abbrev pub left_by : {A S E : Type 0} → (A → S) → S → Result A E → S
left_by shown old (Ok value) = shown value
left_by shown old (Err error) = old
