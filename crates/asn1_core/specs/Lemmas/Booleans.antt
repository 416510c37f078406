-- BOOLEAN: what is read is the contents octets of the value, and these are read back.
use Rattle.std.proofs.Common.{◌≡◌, ℕ, Bool, true, false, eqb, List, [], ◌∷◌, Ok, IfErr, refl, subst, inl, inr}
use Rattle.std.proofs.lemmas.Bool.{eqb-true}
use Rattle.asn1_core.specs.declared.parser.ParseErrorKind.TheVariants.{InvalidValue}
use Rattle.asn1_core.specs.ReadError.{IsOfInput}
use Rattle.asn1_core.specs.Boolean.{bool_octets, read_bool}
use Rattle.asn1_core.specs.Lemmas.Results.{done_injective, if_cases, if_ok_is}
use Rattle.asn1_core.specs.Lemmas.Faults.{if_errors, passed_errors}

pub bool_consumes : (c : List ℕ) (m : Bool) → read_bool c ≡ Ok m → c ≡ bool_octets m
bool_consumes [] m e = absurd cc
bool_consumes (octet ∷ []) m e =
    let P : Bool → Type 0 = λ x. (octet ∷ []) ≡ bool_octets x in
    elim (if_cases (eqb octet 0) _ _ (Ok m) e) [
      | inl p ↦ subst P (done_injective _ _ p.1) (rw (eqb-true _ _ p.0) refl)
      | inr p ↦
          let q = if_ok_is (eqb octet 255) _ _ m p.1 in
          subst P (done_injective _ _ q.1) (rw (eqb-true _ _ q.0) refl)
    ]
bool_consumes (octet ∷ next ∷ octets) m e = absurd cc

pub bool_read_back : (m : Bool) → read_bool (bool_octets m) ≡ Ok m
bool_read_back false = refl
bool_read_back true = refl

pub bool_errors : (c : List ℕ) → IfErr (read_bool c) IsOfInput
bool_errors [] = λ e. cc
bool_errors (octet ∷ []) = if_errors (eqb octet 0) (Ok false) _ tt (passed_errors (eqb octet 255) (Ok true) InvalidValue tt (λ e. cc))
bool_errors (octet ∷ next ∷ octets) = λ e. cc
