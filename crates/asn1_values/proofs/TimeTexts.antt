-- The contents octets of times: those that the relations allow are those that the functions return, and they alone are
-- read.
use Rattle.std.proofs.Common.{◌≡◌, ℕ, List, [], ◌∷◌, ◌++◌, Option, None, Some, refl, sym, ap, ◌∙◌}
use Rattle.asn1_values.specs.Times.{Instant, IsInstant, IsNanoseconds, IsUtcText, IsX509Text, IsFractionText, IsInstantText, fraction, fraction_text, general_text, instant_text}
use Rattle.asn1_values.specs.TimeSteps.{read_utc, read_x509, read_instant}
use Rattle.asn1_values.specs.TimeValues.{TimesAreRead, TimesAreWritten, utc_content, x509_content, instant_content}
use Rattle.asn1_values.specs.Lemmas.Times.{IsRejected_not_ok, utc_consumes, utc_read_back, utc_rejected, x509_consumes, x509_read_back, x509_rejected}
use Rattle.asn1_values.specs.Lemmas.Fractions.{instant_consumes, instant_read_back, instant_rejected, fraction_text_append}
use Rattle.asn1_values.proofs.FractionDigits.{IsFraction_fraction, fraction_IsFraction}

-- ---- fractions

IsFractionText_only : (part : List ℕ) (n : Option ℕ) → IsFractionText part n → part ≡ fraction_text n []
IsFractionText_only part None h = h
IsFractionText_only part (Some n) h = h.2 ∙ ap (λ (t : List ℕ). 46 ∷ t) (IsFraction_fraction h.0 n h.1)

IsFractionText_fraction_text : (n : Option ℕ) → IsNanoseconds n → IsFractionText (fraction_text n []) n
IsFractionText_fraction_text None h = refl
IsFractionText_fraction_text (Some n) h = (fraction 9 n [], fraction_IsFraction n h.0 h.1, refl)

-- ---- what is written

pub utc_written : TimesAreWritten utc_content IsUtcText
utc_written octets m = (λ h. h, λ h. h)

pub x509_written : TimesAreWritten x509_content IsX509Text
x509_written octets m = (λ h. h, λ h. h)

IsInstantText_only : (octets : List ℕ) (i : Instant) → IsInstantText octets i → octets ≡ instant_text i
IsInstantText_only octets i h =
    let part = h.1.0 in
    let end : part ++ 90 ∷ [] ≡ fraction_text i.nanoseconds (90 ∷ []) =
    ap (λ (t : List ℕ). t ++ 90 ∷ []) (IsFractionText_only part i.nanoseconds h.1.1) ∙ sym (fraction_text_append i.nanoseconds) in
    h.1.2 ∙ ap (general_text i.moment) end

IsInstantText_instant_text : (i : Instant) → IsInstant i → IsInstantText (instant_text i) i
IsInstantText_instant_text i h = (h, (fraction_text i.nanoseconds [], IsFractionText_fraction_text i.nanoseconds h.1, ap (general_text i.moment) (fraction_text_append i.nanoseconds)))

pub instants_written : TimesAreWritten instant_content IsInstantText
instants_written octets i =
    (λ h. (h.0, IsInstantText_only octets i h), λ h. rw h.1 (IsInstantText_instant_text i h.0))

-- ---- what is read

pub utc_read : TimesAreRead utc_content IsUtcText
utc_read = record {
  returns = λ octets m is. (λ e. let t = utc_consumes octets m is e in (t.1, t.0), λ h. ap read_utc h.1 ∙ utc_read_back m h.0);
  rejects = λ octets is none. IsRejected_not_ok (read_utc octets) (utc_rejected octets) (λ m e. let t = utc_consumes octets m is e in none m (t.1, t.0));
}

pub x509_read : TimesAreRead x509_content IsX509Text
x509_read = record {
  returns = λ octets m is. (λ e. let t = x509_consumes octets m is e in (t.1, t.0), λ h. ap read_x509 h.1 ∙ x509_read_back m h.0);
  rejects = λ octets is none. IsRejected_not_ok (read_x509 octets) (x509_rejected octets) (λ m e. let t = x509_consumes octets m is e in none m (t.1, t.0));
}

pub instants_read : TimesAreRead instant_content IsInstantText
instants_read = record {
  returns = λ octets i is. (
    λ e. let t = instant_consumes octets i is e in (instants_written octets i).1 (t.1, t.0),
    λ h. ap read_instant ((instants_written octets i).0 h).1 ∙ instant_read_back i h.0,
  );
  rejects = λ octets is none. IsRejected_not_ok (read_instant octets) (instant_rejected octets) (λ i e.
      let t = instant_consumes octets i is e in none i ((instants_written octets i).1 (t.1, t.0)));
}
