-- Texts in a buffer of the caller's.
use Rattle.std.specs.Prelude.{ℕ, ◌≡◌, nat_le, nat_eq, codes, if◌then◌else◌, List, ◌++◌, length, drop}
use Rattle.asn1_for_c.specs.Errors.{unknown_type, buffer_too_small}

-- What a buffer holds after a text: the text at its start, if it has room for it, and else what it held before.
abbrev pub copied : List ℕ → List ℕ → List ℕ
copied octets old = if nat_le (length octets) (length old) then octets ++ drop (length octets) old else old

-- A call leaves a text in a buffer, if it has room for it, and how many octets the text has.
abbrev pub LeavesText : List ℕ → List ℕ → List ℕ → ℕ → Type 0
LeavesText octets old new count = (new ≡ copied octets old) × (count ≡ length octets)

-- What an error's number means.
abbrev pub words_of : ℕ → List ℕ
words_of number = if nat_eq number 0 then codes "no error" else
    if nat_eq number 1 then codes "the contents octets encode no value" else
    if nat_eq number 2 then codes "the identifier octets are malformed" else
    if nat_eq number 3 then codes "the length is indefinite, too large, or not in its fewest octets" else
    if nat_eq number 4 then codes "there are too few or too many items" else
    if nat_eq number 5 then codes "another tag is expected" else
    if nat_eq number 6 then codes "octets are missing" else
    if nat_eq number 7 then codes "the number is out of range" else
    if nat_eq number 8 then codes "octets follow the value" else
    if nat_eq number 9 then codes "the elements are out of order" else
    if nat_eq number 10 then codes "the default is encoded" else
    if nat_eq number 11 then codes "the object identifier has more than 63 octets" else
    if nat_eq number 12 then codes "the object identifier is unknown" else
    if nat_eq number 13 then codes "out of memory" else
    if nat_eq number unknown_type then codes "no type has this number" else
    if nat_eq number buffer_too_small then codes "the buffer is too small" else
    codes "unknown error"

-- The number that says whether a buffer has room for a text.
abbrev pub text_number : List ℕ → List ℕ → ℕ
text_number octets buffer = if nat_le (length octets) (length buffer) then 0 else buffer_too_small
