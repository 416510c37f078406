-- A text that is read as an object identifier is displayed unchanged exactly if the text is plain.
use Rattle.std.proofs.Common.{◌≡◌, ◌↔◌, ℕ, ◌+◌, ◌-◌, ◌*◌, ◌/◌, ◌%◌, ◌^◌, ◌<◌, ◌≤◌, List, [], ◌∷◌, ◌++◌, length, get_or, Some, refl, sym, ap, subst, ◌∙◌, ⊎_elim, arith}
use Rattle.std.specs.Prelude.{decimal, codes}
use Rattle.std.specs.List.{AllByRecursion, join_by}
use Rattle.std.specs.Str.Parse.{digits_value, IsNumeral, AllDigits}
use Rattle.std.proofs.lemmas.Fmt.{decimal_digit, decimal_step_wide, decimal_by_steps_wide}
use Rattle.std.proofs.lemmas.Str.Parse.{digit_from_value, without_leading_plus_none}
use Rattle.std.proofs.lemmas.Bool.{cases_lt, lt-ltb, le-ltb}
use Rattle.std.proofs.lemmas.List.{append-nil, append_assoc, append_cancel_left, length-append}
use Rattle.asn1_values.specs.Identifier.{arcs, dotted_text, parts_of, read_dotted, IsPart, IsDotted, IsIdentifierText, IsPlainPart, IsPlainText}
use Rattle.asn1_values.proofs.IdentifierText.{IsNumeralModel_read_on, read_on, parts_of_no_dot, parts_of_dot}
use Rattle.asn1_values.proofs.DottedTexts.{IsPart_no_dot, read_dotted_some_is}
use Rattle.asn1_values.proofs.Shown.{decimal_no_dot, decimal_no_plus}

-- ---- digits without a needless zero are those of their number

read_on_ge : (n : ℕ) (ds : List ℕ) → n ≤ read_on n ds
read_on_ge n [] = omega arith
read_on_ge n (c ∷ cs) = let h = read_on_ge (10 * n + (c - 48)) cs in omega (arith, h)

decimal_read_on : (n : ℕ) (ds : List ℕ) → AllDigits 10 ds → 0 < n → read_on n ds < 10 ^ 64 → decimal (read_on n ds) ≡ decimal n ++ ds
decimal_read_on n [] all some small = sym (append-nil (decimal n))
decimal_read_on n (c ∷ cs) all some small =
    let m = 10 * n + (c - 48) in
    let range = digit_from_value c all.0 in
    let least = read_on_ge m cs in
    let front : m / 10 ≡ n = omega (arith, range) in
    let last : 48 + m % 10 ≡ c = omega (arith, range) in
    let step : decimal m ≡ decimal n ++ (c ∷ []) = decimal_step_wide m (omega (arith, some)) (omega (arith, least, small)) ∙ rw (front, last) refl in
    decimal_read_on m cs all.1 (omega (arith, some)) small ∙ ap (λ (t : List ℕ). t ++ cs) step ∙ append_assoc (decimal n) (c ∷ []) cs

decimal_zero : decimal 0 ≡ 48 ∷ []
decimal_zero = decimal_digit 0 (omega arith)

decimal_read_on_zero : (t : List ℕ) → IsNumeral 10 t → (get_or t 0 0 ≡ 48 → length t ≡ 1) → read_on 0 t < 10 ^ 64 → decimal (read_on 0 t) ≡ t
decimal_read_on_zero [] is plain small = absurd (omega (arith, is.0))
decimal_read_on_zero (c ∷ []) is plain small =
    let range = digit_from_value c is.1.0 in
    let value : 10 * 0 + (c - 48) ≡ c - 48 = omega arith in
    let same : 48 + (c - 48) ≡ c = omega (arith, range) in
    ap decimal value ∙ decimal_digit (c - 48) (omega (arith, range)) ∙ ap (λ (k : ℕ). k ∷ []) same
decimal_read_on_zero (c ∷ d ∷ ds) is plain small =
    let range = digit_from_value c is.1.0 in
    let some : c ≡ 48 → ⊥ = λ e. let h = plain e in omega (arith, h) in
    let value : 10 * 0 + (c - 48) ≡ c - 48 = omega arith in
    let same : 48 + (c - 48) ≡ c = omega (arith, range) in
    let more : 0 < 10 * 0 + (c - 48) = ⊎_elim (λ (e : c < 49). absurd (some (omega (arith, e, range)))) (λ (h : 49 ≤ c). omega (arith, h)) (cases_lt c 49) in
    decimal_read_on (10 * 0 + (c - 48)) (d ∷ ds) is.1.1 more small
    ∙ ap (λ (t : List ℕ). t ++ d ∷ ds) (ap decimal value ∙ decimal_digit (c - 48) (omega (arith, range)) ∙ ap (λ (k : ℕ). k ∷ []) same)

-- ---- a number's digits have no needless zero

first_of_more : (ds : List ℕ) (c : ℕ) → 0 < length ds → get_or (ds ++ c ∷ []) 0 0 ≡ get_or ds 0 0
first_of_more [] c some = absurd (omega (arith, some))
first_of_more (d ∷ ds) c some = refl

abbrev IsLed : ℕ → List ℕ → Type 0
IsLed n ds = (get_or ds 0 0 ≡ 48 → n ≡ 0) × (0 < length ds)

decimal_is_led : (n : ℕ) → n < 10 ^ 64 → IsLed n (decimal n)
decimal_is_led = decimal_by_steps_wide IsLed
    (λ n h. ((λ e. omega (arith, e)), omega arith))
    (λ n ds h led. (
      (λ e. let z = led.0 (sym (first_of_more ds (48 + n % 10) led.1) ∙ e) in absurd (omega (arith, h, z))),
      let more = length-append ds ((48 + n % 10) ∷ []) in omega (arith, more),
    ))

decimal_is_plain : (n : ℕ) → n < 2 ^ 128 → IsPlainPart (decimal n)
decimal_is_plain n small = (
  decimal_no_plus n small,
  λ e. let z = (decimal_is_led n (omega (arith, small))).0 e in ap length (ap decimal z ∙ decimal_zero),
)

-- ---- parts

IsPlainPart_decimal : (t : List ℕ) (n : ℕ) → IsPart t n → IsPlainPart t → decimal n ≡ t
IsPlainPart_decimal t n is plain =
    let whole = without_leading_plus_none t plain.0 in
    let digits = subst (λ (l : List ℕ). IsNumeral 10 l) whole is.digits in
    let value : read_on 0 t ≡ n = IsNumeralModel_read_on.same t digits.1 ∙ ap (digits_value 10) (sym whole) ∙ is.value in
    let small = is.small in
    sym (ap decimal value) ∙ decimal_read_on_zero t digits plain.1 (omega (arith, value, small))

decimal_IsPlainPart : (t : List ℕ) (n : ℕ) → IsPart t n → decimal n ≡ t → IsPlainPart t
decimal_IsPlainPart t n is e = subst IsPlainPart e (decimal_is_plain n is.small)

-- ---- dotted forms

abbrev joined : List ℕ → List ℕ
joined ns = join_by decimal (codes ".") ns

IsPlainText_joined : (ns t : List ℕ) → IsDotted t ns → IsPlainText t → joined ns ≡ t
IsPlainText_joined [] t is plain = absurd is
IsPlainText_joined (n ∷ []) t is plain =
    let parts = parts_of_no_dot t (IsPart_no_dot t n is) in
    append-nil (decimal n) ∙ IsPlainPart_decimal t n is (subst (AllByRecursion IsPlainPart) parts plain).0
IsPlainText_joined (n ∷ m ∷ ns) t is plain =
    let parts = ap parts_of is.3 ∙ parts_of_dot is.0 is.1 (IsPart_no_dot is.0 n is.2) in
    let each = subst (AllByRecursion IsPlainPart) parts plain in
    ap (λ (l : List ℕ). l ++ 46 ∷ joined (m ∷ ns)) (IsPlainPart_decimal is.0 n is.2 each.0)
    ∙ ap (λ (l : List ℕ). is.0 ++ 46 ∷ l) (IsPlainText_joined (m ∷ ns) is.1 is.4 each.1) ∙ sym is.3

joined_IsPlainText : (ns t : List ℕ) → IsDotted t ns → joined ns ≡ t → IsPlainText t
joined_IsPlainText [] t is e = absurd is
joined_IsPlainText (n ∷ []) t is e =
    subst (AllByRecursion IsPlainPart) (sym (parts_of_no_dot t (IsPart_no_dot t n is))) (decimal_IsPlainPart t n is (sym (append-nil (decimal n)) ∙ e), tt)
joined_IsPlainText (n ∷ m ∷ ns) t is e =
    let small = is.2.small in
    let left : parts_of (joined (n ∷ m ∷ ns)) ≡ decimal n ∷ parts_of (joined (m ∷ ns)) = parts_of_dot (decimal n) (joined (m ∷ ns)) (decimal_no_dot n small) in
    let right : parts_of t ≡ is.0 ∷ parts_of is.1 = ap parts_of is.3 ∙ parts_of_dot is.0 is.1 (IsPart_no_dot is.0 n is.2) in
    let both : decimal n ∷ parts_of (joined (m ∷ ns)) ≡ is.0 ∷ parts_of is.1 = sym left ∙ ap parts_of e ∙ right in
    let front : decimal n ≡ is.0 = cc in
    let behind : 46 ∷ joined (m ∷ ns) ≡ 46 ∷ is.1 = append_cancel_left is.0 (46 ∷ joined (m ∷ ns)) (46 ∷ is.1) (ap (λ (l : List ℕ). l ++ 46 ∷ joined (m ∷ ns)) (sym front) ∙ e ∙ is.3) in
    let rest : joined (m ∷ ns) ≡ is.1 = cc in
    subst (AllByRecursion IsPlainPart) (sym right) (decimal_IsPlainPart is.0 n is.2 front, joined_IsPlainText (m ∷ ns) is.1 is.4 rest)

-- ---- identifiers

arcs_first_two : (a b : ℕ) (others : List ℕ) → a ≤ 2 → (a < 2 → b < 40) → arcs ((40 * a + b) ∷ others) ≡ a ∷ b ∷ others
arcs_first_two a b others high low = ⊎_elim
    (λ (h : a < 2).
    let l = low h in
    let quotient : (40 * a + b) / 40 ≡ a = omega (arith, l) in
    let remainder : (40 * a + b) % 40 ≡ b = omega (arith, l) in
    rw (lt-ltb (40 * a + b) 80 (omega (arith, h, l)), quotient, remainder) refl)
    (λ (h : 2 ≤ a).
    let two : a ≡ 2 = omega (arith, h, high) in
    let rest : 40 * a + b - 80 ≡ b = omega (arith, two) in
    rw (le-ltb (40 * a + b) 80 (omega (arith, h)), rest, two) refl) (cases_lt a 2)

dotted_text_joined : (t numbers : List ℕ) (is : IsIdentifierText t numbers) → dotted_text numbers ≡ joined (is.first ∷ is.second ∷ is.others)
unfolding dotted_text
dotted_text_joined t numbers is = ap (λ (l : List ℕ). joined (arcs l)) (sym is.are) ∙ ap joined (arcs_first_two is.first is.second is.others is.high is.low)

pub dotted_text_IsPlainText : (t numbers : List ℕ) → read_dotted t ≡ Some numbers → (dotted_text numbers ≡ t) ↔ IsPlainText t
dotted_text_IsPlainText t numbers e =
    let is = read_dotted_some_is t numbers e in
    let octets = dotted_text_joined t numbers is in (
      (λ same. joined_IsPlainText (is.first ∷ is.second ∷ is.others) t is.dotted (sym octets ∙ same)),
      λ plain. octets ∙ IsPlainText_joined (is.first ∷ is.second ∷ is.others) t is.dotted plain,
    )
