-- The replies to lines.
use Rattle.std.specs.Prelude.{ℕ, Bool, true, false, List, [], ◌∷◌, ◌++◌, codes, decimal, ◌≡◌, Result, Ok, Err, Option, Some, None, is_ok}
use Rattle.std.specs.List.{flat_map}
use Rattle.hex.specs.Hex.{encode_lower}
use Rattle.asn1.specs.Tag.{tag_class, tag_constructed, tag_number}
use Rattle.asn1.specs.declared.ParseErrorKind.{ParseErrorKind}
use Rattle.asn1.specs.declared.ParseErrorKind.TheVariants.{InvalidValue, InvalidTag, InvalidLength, InvalidSize, UnexpectedTag, ShortData, IntegerOverflow, ExtraData, InvalidSetOrdering, EncodedDefault, OidTooLong, UnknownDefinedBy, AllocationError}
use Rattle.asn1.specs.declared.TagClass.{TagClass}
use Rattle.asn1.specs.declared.TagClass.TheVariants.{Universal, Application, ContextSpecific, Private}
use Rattle.asn1.specs.ReadError.{ReadError}
use Rattle.asn1.specs.Reading.{whole}
use Rattle.dercheck.specs.declared.replies.Reply.{Reply}
use Rattle.dercheck.specs.declared.replies.Reply.TheVariants.{BadLine, Refused, Written}
use Rattle.dercheck.specs.declared.words.Word.{Word}
use Rattle.dercheck.specs.Lines.{lines_of}
use Rattle.dercheck.specs.Requests.{type_of, request_of}

-- ---- the kinds of errors, as text

abbrev pub kind_name : ParseErrorKind → List ℕ
kind_name InvalidValue = codes "InvalidValue"
kind_name InvalidTag = codes "InvalidTag"
kind_name InvalidLength = codes "InvalidLength"
kind_name (InvalidSize min max actual) = codes "InvalidSize"
kind_name (UnexpectedTag actual) = codes "UnexpectedTag"
kind_name (ShortData needed) = codes "ShortData"
kind_name IntegerOverflow = codes "IntegerOverflow"
kind_name ExtraData = codes "ExtraData"
kind_name InvalidSetOrdering = codes "InvalidSetOrdering"
kind_name EncodedDefault = codes "EncodedDefault"
kind_name OidTooLong = codes "OidTooLong"
kind_name UnknownDefinedBy = codes "UnknownDefinedBy"
kind_name AllocationError = codes "AllocationError"

abbrev pub class_text : TagClass → List ℕ
class_text Universal = codes "universal"
class_text Application = codes "application"
class_text ContextSpecific = codes "context"
class_text Private = codes "private"

abbrev pub form_text : Bool → List ℕ
form_text true = codes "constructed"
form_text false = codes "primitive"

-- each word with a space before it
abbrev pub spaced : List (List ℕ) → List ℕ
spaced [] = []
spaced (word ∷ words) = (32 ∷ word) ++ spaced words

-- The details of a kind, which follow its name: of `InvalidSize` its bounds and count, of `UnexpectedTag` the class,
-- the number and `primitive` or `constructed`, of `ShortData` what is needed.
abbrev pub kind_details : ParseErrorKind → List (List ℕ)
kind_details (InvalidSize min max actual) = decimal min ∷ decimal max ∷ decimal actual ∷ []
kind_details (UnexpectedTag actual) = class_text (tag_class actual) ∷ decimal (tag_number actual) ∷ form_text (tag_constructed actual) ∷ []
kind_details (ShortData needed) = decimal needed ∷ []
kind_details _ = []

-- the kind as text: its name, and each detail after a space
abbrev pub kind_text : ParseErrorKind → List ℕ
kind_text kind = kind_name kind ++ spaced (kind_details kind)

-- ---- the replies of the code

-- What the code answers with, as text.
abbrev pub reply_text : Reply → List ℕ
reply_text BadLine = codes "bad line"
reply_text (Refused kind) = codes "err " ++ kind_text kind
reply_text (Written octets) = codes "ok " ++ encode_lower octets.items

abbrev pub is_written : Reply → Bool
is_written BadLine = false
is_written (Refused kind) = false
is_written (Written octets) = true

-- the reply to octets, by the result of reading them
abbrev pub IsReply : {M : Type 0} → List ℕ → Result M ReadError → Reply → Type 0
IsReply octets (Ok value) (Written written) = written.items ≡ octets
IsReply octets (Err fault) (Refused kind) = kind ≡ fault.kind
IsReply octets (Ok value) (Refused kind) = ⊥
IsReply octets (Err fault) (Written written) = ⊥
IsReply octets read BadLine = ⊥

-- ---- the replies to lines

-- what reading octets to their end returns, at the type of a word
abbrev pub reading : (word : Word) → List ℕ → Result (type_of word).der.Meaning ReadError
reading word octets = whole ((type_of word).der.read octets)

-- the reply to octets, by the result of reading them
abbrev pub answer_read : {M : Type 0} → List ℕ → Result M ReadError → List ℕ
answer_read octets (Ok value) = codes "ok " ++ encode_lower octets
answer_read octets (Err fault) = codes "err " ++ kind_text fault.kind

abbrev pub answer_to : Option (Word × List ℕ) → List ℕ
answer_to None = codes "bad line"
answer_to (Some request) = answer_read request.1 (reading request.0 request.1)

-- The reply to a line, without the line feed: to a request `ok` and its octets in lower-case hex if a whole read of
-- them gives a value, else `err` and the kind of the error; to any other line `bad line`.
abbrev pub answer : List ℕ → List ℕ
answer line = answer_to (request_of line)

abbrev pub is_ok_to : Option (Word × List ℕ) → Bool
is_ok_to None = false
is_ok_to (Some request) = is_ok (reading request.0 request.1)

-- Whether the reply to a line is `ok`.
abbrev pub is_ok_line : List ℕ → Bool
is_ok_line line = is_ok_to (request_of line)

-- The replies to the lines of an input, each with a line feed.
abbrev pub answers : List ℕ → List ℕ
answers octets = flat_map (λ line. answer line ++ 10 ∷ []) (lines_of octets)
