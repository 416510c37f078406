-- Relative object identifiers: only contents octets are read, and all of them are.
use Rattle.std.proofs.Common.{◌≡◌, ℕ, ◌<◌, ◌≤◌, true, false, List, [], ◌∷◌, ◌++◌, length, Option, Ok, Err, IfErr, refl, sym, ap, ◌∙◌, ⊎_elim, arith, eqb}
use Rattle.std.specs.Prelude.{is_some, decimal}
use Rattle.std.proofs.lemmas.Bool.{cases_lt, ne_eqb}
use Rattle.asn1_core.specs.declared.parser.ParseErrorKind.TheVariants.{InvalidValue}
use Rattle.asn1_core.specs.Base256.{IsOctets}
use Rattle.asn1_core.specs.Base128.{leading_number}
use Rattle.asn1_core.specs.ReadError.{ReadError, read_error, IsOfInput}
use Rattle.asn1_core.specs.Lemmas.Facts.{get_or_IsOctets}
use Rattle.asn1_core.specs.Lemmas.Faults.{missed_errors}
use Rattle.asn1_core.specs.Lemmas.Texts.{IsOctets_from_reads}
use Rattle.asn1_values.specs.Identifier.{identifier_content, numbers_in, or_invalid, or_none, identifier_numbers}
use Rattle.asn1_values.specs.IdentifierSteps.{others_text}
use Rattle.asn1_values.specs.Lemmas.Identifier.{identifier_content_numbers_not_empty, leading_number_HasFront, or_invalid_none, numbers_in_IsCut, numbers_in_empty, numbers_in_identifier_numbers, numbers_in_identifier_content, or_invalid_errors, Err_ne_Ok, identifier_content_nonempty, or_invalid_ok}
use Rattle.asn1_values.proofs.Dotted.{identifier_numbers_cons}
use Rattle.asn1.specs.Relative.{IsRelative, IsRelativeContent, IsRelativeForm, RelativesAreRead, read_relative, arcs_text}

-- ---- what reading returns

pub read_relative_empty : (t : List ℕ) → length t ≡ 0 → read_relative t ≡ Err (read_error InvalidValue)
unfolding read_relative
read_relative_empty t none = rw none refl

pub read_relative_nonempty : (t : List ℕ) → 0 < length t → read_relative t ≡ or_invalid (numbers_in t)
unfolding read_relative
read_relative_nonempty t some = rw (ne_eqb (length t) 0 (λ (z : length t ≡ 0). absurd (omega arith))) refl

pub relative_consumes : (c arcs : List ℕ) → IsOctets c → read_relative c ≡ Ok arcs → (c ≡ identifier_content arcs) × IsRelative arcs
relative_consumes c arcs is e = ⊎_elim
    (λ (none : length c < 1). absurd (Err_ne_Ok _ arcs _ (read_relative_empty c (omega arith)) e))
    (λ (some : 1 ≤ length c).
    let cut = numbers_in_IsCut c arcs is (or_invalid_ok (numbers_in c) arcs (sym (read_relative_nonempty c (omega arith)) ∙ e)) in
    let same = ap length cut.content in (
      cut.content,
      record { some = identifier_content_numbers_not_empty arcs (omega arith); small = cut.small },
    )) (cases_lt (length c) 1)

pub relative_read_back : (arcs : List ℕ) → IsRelative arcs → read_relative (identifier_content arcs) ≡ Ok arcs
relative_read_back arcs is = read_relative_nonempty (identifier_content arcs) (identifier_content_nonempty arcs is.some) ∙ ap or_invalid (numbers_in_identifier_content arcs is.small)

pub relatives_are_read : RelativesAreRead
relatives_are_read octets arcs is = (
  λ e. let taken = relative_consumes octets arcs is e in record { identifier = taken.1; content = taken.0 },
  λ h. ap read_relative h.content ∙ relative_read_back arcs h.identifier,
)

pub relative_errors : (c : List ℕ) → IfErr (read_relative c) IsOfInput
unfolding read_relative
relative_errors c = missed_errors (eqb (length c) 0) InvalidValue _ (λ e. cc) (or_invalid_errors (numbers_in c))

pub read_relative_err : (t : List ℕ) (f : ReadError) → is_some (numbers_in t) ≡ false → 0 < length t → f ≡ read_error InvalidValue → read_relative t ≡ Err f
read_relative_err t f cuts some e = read_relative_nonempty t some ∙ or_invalid_none (numbers_in t) cuts ∙ ap Err (sym e)

pub read_relative_ok : (t : List ℕ) → 0 < length t → is_some (numbers_in t) ≡ true → read_relative t ≡ Ok (identifier_numbers t)
read_relative_ok t some cuts = read_relative_nonempty t some ∙ ap or_invalid (numbers_in_identifier_numbers t cuts)

-- ---- the form in memory

pub IsRelativeForm_IsOctets : (t : List ℕ) → IsRelativeForm t → IsOctets t
IsRelativeForm_IsOctets t form = IsOctets_from_reads t form.each

pub IsRelativeForm_IsRelativeContent : (t : List ℕ) → IsRelativeForm t → IsRelativeContent t (identifier_numbers t)
IsRelativeForm_IsRelativeContent t form =
    let taken = relative_consumes t (identifier_numbers t) (IsRelativeForm_IsOctets t form) (read_relative_ok t form.some form.cuts) in
    record { identifier = taken.1; content = taken.0 }

-- the first arc, and the octets after it
pub record IsSplit (t : List ℕ) (n : ℕ) (rest : List ℕ) : Type 0 where
  pub arcs : identifier_numbers t ≡ n ∷ identifier_numbers rest
  pub octets : IsOctets rest
  pub cuts : is_some (numbers_in rest) ≡ true
  pub shorter : length rest < length t

pub IsRelativeForm_IsSplit : (t : List ℕ) (n : ℕ) (rest : List ℕ) → IsRelativeForm t → leading_number t ≡ Ok (n, rest) → IsSplit t n rest
IsRelativeForm_IsSplit t n rest form e =
    let numbers = identifier_numbers_cons t n rest (IsRelativeForm_IsOctets t form) form.some e form.cuts in
    let front = leading_number_HasFront t n rest (IsRelativeForm_IsOctets t form) e in
    record { arcs = numbers.1; octets = front.octets; cuts = numbers.0; shorter = front.shorter }

pub IsRelativeForm_remaining : (t : List ℕ) (n : ℕ) (rest : List ℕ) → IsRelativeForm t → leading_number t ≡ Ok (n, rest) → 0 < length rest → IsRelativeForm rest
IsRelativeForm_remaining t n rest form e some =
    let found = IsRelativeForm_IsSplit t n rest form e in
    record { some = some; cuts = found.cuts; each = get_or_IsOctets rest found.octets }

pub identifier_numbers_last : (t : List ℕ) (n : ℕ) (rest : List ℕ) → IsRelativeForm t → leading_number t ≡ Ok (n, rest) → length rest ≡ 0 → identifier_numbers t ≡ n ∷ []
identifier_numbers_last t n rest form e none = (IsRelativeForm_IsSplit t n rest form e).arcs ∙ ap (λ (o : Option (List ℕ)). n ∷ or_none o) (numbers_in_empty rest none)

-- ---- the dotted form

pub arcs_text_first : (t : List ℕ) (n : ℕ) (rest : List ℕ) → IsRelativeForm t → leading_number t ≡ Ok (n, rest) → decimal n ++ others_text (identifier_numbers rest) ≡ arcs_text (identifier_numbers t)
arcs_text_first t n rest form e = sym (ap arcs_text (IsRelativeForm_IsSplit t n rest form e).arcs)
