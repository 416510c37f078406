-- Octet strings and null: what is read is the contents octets, and these are read back.
use Rattle.std.proofs.Common.{◌≡◌, ℕ, eqb, List, [], ◌∷◌, length, Ok, IfErr, refl, sym, ap, subst, ◌∙◌}
use Rattle.std.proofs.lemmas.Bool.{eqb-true, eq-eqb}
use Rattle.asn1_core.specs.declared.parser.ParseErrorKind.TheVariants.{InvalidValue}
use Rattle.asn1_core.specs.Base256.{IsOctets}
use Rattle.asn1_core.specs.ReadError.{IsOfInput}
use Rattle.asn1_core.specs.Octets.{read_octets, read_sized_octets, read_null}
use Rattle.asn1_core.specs.Lemmas.Results.{done_injective, if_ok_is}
use Rattle.asn1_core.specs.Lemmas.Faults.{passed_errors}

pub octets_consumes : (c octets : List ℕ) → IsOctets c → read_octets c ≡ Ok octets → (c ≡ octets) × IsOctets octets
octets_consumes c octets is e = let same : c ≡ octets = done_injective c octets e in (same, subst IsOctets same is)

pub sized_octets_consumes : (size : ℕ) (c octets : List ℕ) → IsOctets c → read_sized_octets size c ≡ Ok octets → (c ≡ octets) × (IsOctets octets × (length octets ≡ size))
sized_octets_consumes size c octets is e =
    let p = if_ok_is (eqb (length c) size) _ _ octets e in
    let same = octets_consumes c octets is p.1 in
    (same.0, (same.1, ap length (sym same.0) ∙ eqb-true _ _ p.0))

pub sized_octets_read_back : (size : ℕ) (octets : List ℕ) → length octets ≡ size → read_sized_octets size octets ≡ Ok octets
sized_octets_read_back size octets e = rw (eq-eqb _ _ e) refl

pub sized_octets_errors : (size : ℕ) (c : List ℕ) → IfErr (read_sized_octets size c) IsOfInput
sized_octets_errors size c = passed_errors (eqb (length c) size) (Ok c) InvalidValue tt (λ e. cc)

pub null_consumes : (c : List ℕ) (m : Unit {0}) → read_null c ≡ Ok m → c ≡ []
null_consumes [] m e = refl
null_consumes (octet ∷ octets) m e = absurd cc

pub null_read_back : (m : Unit {0}) → read_null [] ≡ Ok m
null_read_back tt = refl

pub null_errors : (c : List ℕ) → IfErr (read_null c) IsOfInput
null_errors [] = tt
null_errors (octet ∷ octets) = λ e. cc
