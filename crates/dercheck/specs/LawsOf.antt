-- The laws of the content of `Reason`.
use Rattle.std.proofs.Common.{ℕ, ◌≡◌, List, [], ◌∷◌, nat_eq, Ok, IfErr, refl, subst, inl, inr}
use Rattle.std.proofs.lemmas.Bool.{eqb-true}
use Rattle.asn1.specs.declared.ParseErrorKind.TheVariants.{InvalidValue}
use Rattle.asn1.specs.ReadError.{IsOfInput}
use Rattle.asn1.specs.EncodingLaws.{ContentLaws}
use Rattle.asn1.specs.LawsOf.Encodings.{basic_laws}
use Rattle.asn1.specs.Lemmas.Results.{done_injective, if_cases, if_ok_is}
use Rattle.asn1.specs.Lemmas.Faults.{if_errors, passed_errors}
use Rattle.dercheck.specs.declared.own_types.reason.Reason.{Reason}
use Rattle.dercheck.specs.declared.own_types.reason.Reason.TheVariants.{Unspecified, Superseded}
use Rattle.dercheck.specs.OwnTypes.{reason_text, read_reason, reason_content}

-- What is read is the contents octets of the value that is returned.
pub reason_consumes : (c : List ℕ) (m : Reason) → read_reason c ≡ Ok m → c ≡ reason_text m
reason_consumes [] m e = absurd cc
reason_consumes (octet ∷ []) m e =
    let P : Reason → Type 0 = λ x. (octet ∷ []) ≡ reason_text x in
    elim (if_cases (nat_eq octet 0) _ _ (Ok m) e) [
      | inl p ↦ subst P (done_injective _ _ p.1) (rw (eqb-true _ _ p.0) refl)
      | inr p ↦
          let q = if_ok_is (nat_eq octet 4) _ _ m p.1 in
          subst P (done_injective _ _ q.1) (rw (eqb-true _ _ q.0) refl)
    ]
reason_consumes (octet ∷ next ∷ octets) m e = absurd cc

-- A value's contents octets are read back.
pub reason_read_back : (m : Reason) → read_reason (reason_text m) ≡ Ok m
reason_read_back Unspecified = refl
reason_read_back Superseded = refl

-- An error is one of the input, and never out of memory.
pub reason_errors : (c : List ℕ) → IfErr (read_reason c) IsOfInput
reason_errors [] = λ e. cc
reason_errors (octet ∷ []) = if_errors (nat_eq octet 0) (Ok Unspecified) _ tt (passed_errors (nat_eq octet 4) (Ok Superseded) InvalidValue tt (λ e. cc))
reason_errors (octet ∷ next ∷ octets) = λ e. cc

-- The laws of its contents octets.
pub reason_laws : ContentLaws reason_content
reason_laws = basic_laws _ (record {
  consumes = λ c m is e. (reason_consumes c m e, tt);
  read_back = λ m v. reason_read_back m;
  errors = reason_errors;
})
