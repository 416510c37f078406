-- DATE (X.680 38.4.1, X.690 8.26): dates of the Gregorian calendar, and their contents octets.
use Rattle.std.specs.Prelude.{◌≡◌, ◌≤◌, ◌/◌, ◌%◌, ◌+◌, ◌*◌, ℕ, List, [], Bool, Result, Ok, ◌&&◌, nat_le, nat_eq, length, if◌then◌else◌}
use Rattle.asn1_core.specs.ReadError.{ReadError}
use Rattle.asn1_core.specs.Element.{◌>>=◌}
use Rattle.asn1_values.specs.Times.{days, two}
use Rattle.asn1_values.specs.TimeSteps.{front_two, wrong}

-- The three numbers are a date that DATE has: of a year from 1582 to 9999, which is written in four digits (the setting
-- Year=Basic of X.680 38.2), a month from 1 to 12, and a day from 1 to the last of the month.
pub record IsDay (year month day : ℕ) : Type 0 where
  pub year_from : 1582 ≤ year
  pub year_to : year ≤ 9999
  pub month_from : 1 ≤ month
  pub month_to : month ≤ 12
  pub day_from : 1 ≤ day
  pub day_to : day ≤ days year month

-- A date.
pub record Day : Type 0 where
  pub year : ℕ
  pub month : ℕ
  pub day : ℕ

-- The date with these three numbers.
abbrev pub day_with : ℕ → ℕ → ℕ → Day
day_with year month day = record { year = year; month = month; day = day }

abbrev pub IsDate : Day → Type 0
IsDate d = IsDay d.year d.month d.day

-- YYYYMMDD: the date's digits, without the hyphens of the value notation. (8.26)
abbrev pub day_text : Day → List ℕ
day_text d = two (d.year / 100) (two (d.year % 100) (two d.month (two d.day [])))

-- The octets are the contents octets of this date.
abbrev pub IsDayText : List ℕ → Day → Type 0
IsDayText octets d = IsDate d × (octets ≡ day_text d)

-- ---- reading, in the steps of the code

abbrev pub is_day : Day → Bool
is_day d = (nat_le 1582 d.year && nat_le d.year 9999) && (nat_le 1 d.day && nat_le d.day (days d.year d.month))

-- The date, if it is one and nothing follows.
unfoldable pub day_alone : Day → List ℕ → Result Day ReadError
day_alone d after = if is_day d && nat_eq (length after) 0 then Ok d else wrong

-- The date with these contents octets.
abbrev pub read_day : List ℕ → Result Day ReadError
read_day c = front_two c >>= λ hundreds. front_two hundreds.1 >>= λ years. front_two years.1 >>= λ month. front_two month.1 >>= λ day.
    day_alone (day_with (hundreds.0 * 100 + years.0) month.0 day.0) day.1
