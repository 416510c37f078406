-- Reading of times in the steps of the code: what is at the start of the octets, and the octets after this. A reader of
-- the definitions needs none of it: the law `times_are_read` says what reading returns.
use Rattle.std.specs.Prelude.{ℕ, zero, suc, ◌^◌, Option, None, Some, ◌+◌, ◌*◌, ◌-◌, Bool, false, if◌then◌else◌, ◌&&◌, ◌==◌, nat_le, nat_lt, nat_eq, List, [], ◌∷◌, Result, Ok, Err}
use Rattle.asn1_core.specs.declared.parser.ParseErrorKind.TheVariants.{InvalidValue}
use Rattle.asn1_core.specs.Element.{◌>>=◌}
use Rattle.asn1_core.specs.ReadError.{ReadError, read_error}
use Rattle.asn1_values.specs.Times.{Moment, Instant, days, instant}

abbrev pub is_digit : ℕ → Bool
is_digit octet = nat_le 0x30 octet && nat_le octet 0x39

abbrev pub wrong : {A : Type 0} → Result A ReadError
wrong = Err (read_error InvalidValue)

-- The number that the first two digits encode, and the remaining octets.
unfoldable pub front_two : List ℕ → Result (ℕ × List ℕ) ReadError
front_two [] = wrong
front_two (a ∷ []) = wrong
front_two (a ∷ b ∷ after) = if is_digit a && is_digit b then Ok ((a - 0x30) * 10 + (b - 0x30), after) else wrong

-- The six numbers are a date and a time of day.
abbrev pub is_moment : Moment → Bool
is_moment m = (nat_le 1 m.day && nat_le m.day (days m.year m.month)) && (nat_le m.hour 23 && (nat_le m.minute 59 && nat_le m.second 59))

-- The moment if it is valid, and the remaining octets.
unfoldable pub righted : Moment → List ℕ → Result (Moment × List ℕ) ReadError
righted m after = if is_moment m then Ok (m, after) else wrong

-- The five numbers after the year, and the remaining octets.
abbrev pub front_numbers : ℕ → List ℕ → Result (Moment × List ℕ) ReadError
front_numbers year c = front_two c >>= λ month. front_two month.1 >>= λ day. front_two day.1 >>= λ hour. front_two hour.1 >>= λ minute. front_two minute.1 >>= λ second.
    righted (record { year = year; month = month.0; day = day.0; hour = hour.0; minute = minute.0; second = second.0 }) second.1

-- A date and a time of day with a year of four digits, and the remaining octets.
abbrev pub front_general : List ℕ → Result (Moment × List ℕ) ReadError
front_general c = front_two c >>= λ hundreds. front_two hundreds.1 >>= λ years. front_numbers (hundreds.0 * 100 + years.0) years.1

-- The year that two digits encode. (RFC 5280 4.1.2.5.1)
abbrev pub utc_year : ℕ → ℕ
utc_year n = if nat_lt n 50 then 2000 + n else 1900 + n

abbrev pub front_utc : List ℕ → Result (Moment × List ℕ) ReadError
front_utc c = front_two c >>= λ years. front_numbers (utc_year years.0) years.1

-- The letter Z, and nothing after this letter.
unfoldable pub is_end : List ℕ → Bool
is_end [] = false
is_end (octet ∷ []) = octet == 0x5a
is_end (octet ∷ next ∷ octets) = false

abbrev pub ended : Moment × List ℕ → Result Moment ReadError
ended found = if is_end found.1 then Ok found.0 else wrong

abbrev pub read_utc : List ℕ → Result Moment ReadError
read_utc c = front_utc c >>= ended

abbrev pub read_x509 : List ℕ → Result Moment ReadError
read_x509 c = front_general c >>= ended

-- ---- fractions of a second

-- The value and the octets after the last digit, which mustn't be zero.
abbrev pub closed : ℕ → ℕ → List ℕ → Result (ℕ × List ℕ) ReadError
closed value last c = if nat_eq last 0 then wrong else Ok (value, c)

-- At most k leading digits: each has ten times the weight of the next, and the last of k has the weight 1. `value` and
-- `last` are the value and the last digit of the octets before these.
unfoldable pub front_fraction : ℕ → ℕ → ℕ → List ℕ → Result (ℕ × List ℕ) ReadError
front_fraction zero value last c = closed value last c
front_fraction (suc k) value last [] = closed value last []
front_fraction (suc k) value last (a ∷ c) = if is_digit a then front_fraction k (value + (a - 0x30) * 10 ^ k) (a - 0x30) c else closed value last (a ∷ c)

-- The fraction at the start if there is a point, and the remaining octets.
unfoldable pub front_nanoseconds : List ℕ → Result (Option ℕ × List ℕ) ReadError
front_nanoseconds [] = Ok (None, [])
front_nanoseconds (a ∷ c) = if nat_eq a 0x2e then (front_fraction 9 0 0 c >>= λ n. Ok (Some n.0, n.1)) else Ok (None, a ∷ c)

abbrev pub instant_ended : Instant → List ℕ → Result Instant ReadError
instant_ended i c = if is_end c then Ok i else wrong

abbrev pub read_instant : List ℕ → Result Instant ReadError
read_instant c = front_general c >>= λ m. front_nanoseconds m.1 >>= λ n. instant_ended (instant m.0 n.0) n.1
