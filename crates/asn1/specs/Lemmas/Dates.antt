-- Dates: only contents octets are read, and all of them are.
use Rattle.std.proofs.Common.{◌≡◌, ◌∙◌, ℕ, ◌+◌, ◌*◌, ◌/◌, ◌%◌, ◌≤◌, Bool, true, false, eqb, leb, get_or, zero, suc, Option, Some, None, List, [], ◌∷◌, length, Ok, Err, IfErr, refl, sym, ap, subst, arith}
use Rattle.std.specs.Prelude.{◌↔◌, ◌&&◌, MatchOption}
use Rattle.std.specs.List.{list_all}
use Rattle.std.proofs.lemmas.List.{nil_from_length}
use Rattle.std.proofs.lemmas.Bool.{and_parts, and_from, le-leb, leb-true, eqb-true}
use Rattle.asn1_core.specs.declared.parser.ParseErrorKind.TheVariants.{InvalidValue}
use Rattle.asn1_core.specs.Base256.{IsOctets}
use Rattle.asn1_core.specs.ReadError.{read_error, IsOfInput}
use Rattle.asn1_core.specs.Lemmas.Results.{done_injective, bind_ok, if_ok_is}
use Rattle.asn1_values.specs.Times.{IsDate as IsDateAndTime, Moment, IsMoment, days, is_leap, month_lengths, two}
use Rattle.asn1_values.specs.TimeSteps.{front_two}
use Rattle.asn1_values.specs.Lemmas.Times.{is_moment_IsMoment, two_rejected, two_consumes, two_read_back, IsRejected, bind_rejected, if_rejected, rejected_errors, IsRejected_not_ok}
use Rattle.asn1.specs.Dates.{Day, IsDay, IsDate, IsDayText, is_day, day_alone, day_text, read_day}

-- ---- the test of a date

-- the start of a day
abbrev midnight : Day → Moment
midnight d = record { year = d.year; month = d.month; day = d.day; hour = 0; minute = 0; second = 0 }

pub is_day_IsDate : (d : Day) → is_day d ≡ true → IsDate d
is_day_IsDate d e =
    let p = and_parts _ _ e in
    let y = and_parts _ _ p.0 in
    let m : IsMoment (midnight d) = is_moment_IsMoment (midnight d) (and_from _ _ p.1 refl) in
    record { year_from = leb-true _ _ y.0; year_to = leb-true _ _ y.1; month_from = m.month_from; month_to = m.month_to; day_from = m.day_from; day_to = m.day_to }

pub IsDate_is_day : (d : Day) → IsDate d → is_day d ≡ true
IsDate_is_day d h = and_from _ _ (and_from _ _ (le-leb _ _ h.year_from) (le-leb _ _ h.year_to)) (and_from _ _ (le-leb _ _ h.day_from) (le-leb _ _ h.day_to))

-- a date and a time of day, in one of the years
pub IsMoment_IsDay : (m : Moment) → IsMoment m → 1582 ≤ m.year → m.year ≤ 9999 → IsDay m.year m.month m.day
IsMoment_IsDay m h from to = record { year_from = from; year_to = to; month_from = h.month_from; month_to = h.month_to; day_from = h.day_from; day_to = h.day_to }

pub IsDay_IsDateAndTime : (year month day : ℕ) → IsDay year month day → IsDateAndTime year month day 0 0 0
IsDay_IsDateAndTime year month day h = record { month_from = h.month_from; month_to = h.month_to; day_from = h.day_from; day_to = h.day_to; hour_to = omega arith; minute_to = omega arith; second_to = omega arith }

-- ---- two digits are enough for a day

list_all_get_or : (c : List ℕ) → list_all (λ n. leb n 99) c ≡ true → (k : ℕ) → get_or c k 0 ≤ 99
list_all_get_or [] e k = omega arith
list_all_get_or (x ∷ c) e zero = leb-true x 99 (and_parts _ _ e).0
list_all_get_or (x ∷ c) e (suc k) = list_all_get_or c (and_parts _ _ e).1 k

month_lengths_le_99 : (b : Bool) → list_all (λ n. leb n 99) (month_lengths b) ≡ true
month_lengths_le_99 true = refl
month_lengths_le_99 false = refl

days_le_99 : (year month : ℕ) → days year month ≤ 99
days_le_99 year month = list_all_get_or (month_lengths (is_leap year)) (month_lengths_le_99 (is_leap year)) month

-- ---- the end

day_alone_ok_is : (d : Day) (after : List ℕ) (x : Day) → day_alone d after ≡ Ok x → (is_day d ≡ true) × (after ≡ []) × (d ≡ x)
unfolding day_alone
day_alone_ok_is d after x e =
    let p = if_ok_is (is_day d && eqb (length after) 0) (Ok d) _ x e in
    let q = and_parts _ _ p.0 in
    (q.0, nil_from_length after (eqb-true (length after) 0 q.1), done_injective _ _ p.1)

pub day_alone_ok : (d : Day) → IsDate d → day_alone d [] ≡ Ok d
unfolding day_alone
day_alone_ok d h = rw (IsDate_is_day d h) refl

-- ---- contents octets

pub day_consumes : (c : List ℕ) (d : Day) → IsOctets c → read_day c ≡ Ok d → (c ≡ day_text d) × IsDate d
day_consumes c d is e =
    let p = bind_ok (front_two c) _ d e in
    let q = bind_ok (front_two p.0.1) _ d p.2 in
    let r = bind_ok (front_two q.0.1) _ d q.2 in
    let s = bind_ok (front_two r.0.1) _ d r.2 in
    let n : Day = record { year = p.0.0 * 100 + q.0.0; month = r.0.0; day = s.0.0 } in
    let a = day_alone_ok_is n s.0.1 d s.2 in
    let t = two_consumes c p.0.1 p.0.0 p.1 in
    let u = two_consumes p.0.1 q.0.1 q.0.0 q.1 in
    let v = two_consumes q.0.1 r.0.1 r.0.0 r.1 in
    let w = two_consumes r.0.1 s.0.1 s.0.0 s.1 in
    let high-to = t.0 in
    let low-to = u.0 in
    let high : p.0.0 ≡ (p.0.0 * 100 + q.0.0) / 100 = omega arith in
    let low : q.0.0 ≡ (p.0.0 * 100 + q.0.0) % 100 = omega arith in
    let rest : p.0.1 ≡ two q.0.0 (two n.month (two n.day [])) =
    u.1 ∙ ap (two q.0.0) (v.1 ∙ ap (two n.month) (w.1 ∙ ap (two n.day) a.1)) in
    let octets : c ≡ day_text n =
    t.1 ∙ ap (two p.0.0) rest
    ∙ ap (λ (k : ℕ). two k (two q.0.0 (two n.month (two n.day [])))) high
    ∙ ap (λ (k : ℕ). two (n.year / 100) (two k (two n.month (two n.day [])))) low in
    let P : Day → Type 0 = λ x. (c ≡ day_text x) × IsDate x in
    subst P a.2 (octets, is_day_IsDate n a.0)

pub day_read_back : (d : Day) → IsDate d → read_day (day_text d) ≡ Ok d
day_read_back d h =
    let to = h.year_to in
    let month = h.month_to in
    let day-to = h.day_to in
    let few = days_le_99 d.year d.month in
    let whole : d.year / 100 * 100 + d.year % 100 ≡ d.year = omega arith in
    rw (
      two_read_back (d.year / 100) (two (d.year % 100) (two d.month (two d.day []))) (omega arith),
      two_read_back (d.year % 100) (two d.month (two d.day [])) (omega arith),
      two_read_back d.month (two d.day []) (omega arith),
      two_read_back d.day [] (omega arith),
      whole,
      day_alone_ok d h,
    ) refl

-- ---- errors

day_alone_rejected : (d : Day) (after : List ℕ) → IsRejected (day_alone d after)
unfolding day_alone
day_alone_rejected d after = if_rejected (is_day d && eqb (length after) 0) _ _ tt refl

pub day_rejected : (c : List ℕ) → IsRejected (read_day c)
day_rejected c =
    bind_rejected (front_two c) _ (two_rejected c) (λ hundreds.
    bind_rejected (front_two hundreds.1) _ (two_rejected hundreds.1) (λ years.
    bind_rejected (front_two years.1) _ (two_rejected years.1) (λ month.
    bind_rejected (front_two month.1) _ (two_rejected month.1) (λ day. day_alone_rejected _ day.1))))

pub day_errors : (c : List ℕ) → IfErr (read_day c) IsOfInput
day_errors c = rejected_errors (read_day c) (day_rejected c)

-- ---- what the code returns

pub day_alone_ok_at_end : (d : Day) (after : List ℕ) → IsDate d → length after ≡ 0 → day_alone d after ≡ Ok d
day_alone_ok_at_end d after h e = ap (day_alone d) (nil_from_length after e) ∙ day_alone_ok d h

pub day_alone_err : (d : Day) (after : List ℕ) → (IsDate d → length after ≡ 0 → ⊥) → day_alone d after ≡ Err (read_error InvalidValue)
day_alone_err d after none = IsRejected_not_ok (day_alone d after) (day_alone_rejected d after) (λ x e. let a = day_alone_ok_is d after x e in none (is_day_IsDate d a.0) (ap length a.1))

-- the date that is made of the numbers, or none
pub day_alone_option : {T : Type 0} (view : T → Day) (r : Option T) (d : Day) (after : List ℕ) → ((x : T) → IsDate (view x)) → length after ≡ 0 → MatchOption r (IsDate d → ⊥) (λ x. view x ≡ d) → MatchOption r (day_alone d after ≡ Err (read_error InvalidValue)) (λ x. day_alone d after ≡ Ok (view x))
day_alone_option view None d after valid e none = day_alone_err d after (λ h _. none h)
day_alone_option view (Some x) d after valid e same = day_alone_ok_at_end d after (subst IsDate same (valid x)) e ∙ ap Ok (sym same)

-- ---- the law

pub read_day_IsDayText : (octets : List ℕ) (d : Day) → IsOctets octets → (read_day octets ≡ Ok d) ↔ IsDayText octets d
read_day_IsDayText octets d is = (λ e. let t = day_consumes octets d is e in (t.1, t.0), λ h. ap read_day h.1 ∙ day_read_back d h.0)
