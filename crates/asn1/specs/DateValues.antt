-- The dates of Rust values, and their `Content`.
use Rattle.asn1.specs.declared.date.Date.{Date}
use Rattle.asn1_core.specs.Tag.{universal}
use Rattle.asn1_core.specs.Encoding.{Content, basic}
use Rattle.asn1.specs.Dates.{Day, IsDate, day_text, read_day}

-- The three numbers of a `Date`.
abbrev pub day_of : Date → Day
day_of d = record { year = d.year; month = d.month; day = d.day }

-- Every date, with the tag 31.
abbrev pub date_content : Content Day
date_content = basic (record {
  tag = universal 31;
  encoding = day_text;
  valid = IsDate;
  read = read_day;
})
