-- The laws of the content of the tests' type.
use Rattle.std.proofs.Common.{ℕ, ◌≡◌, ◌<◌, List, [], ◌∷◌, Ok, IfErr, refl}
use Rattle.asn1.specs.Base256.{IsOctets}
use Rattle.asn1.specs.ReadError.{IsOfInput}
use Rattle.asn1.specs.EncodingLaws.{ContentLaws}
use Rattle.asn1.specs.LawsOf.Encodings.{basic_laws}
use Rattle.asn1.specs.Lemmas.Results.{done_injective}
use Rattle.dercheck_tests.specs.Code.{read_code, code_content}

pub code_consumes : (c : List ℕ) (m : ℕ) → IsOctets c → read_code c ≡ Ok m → (c ≡ m ∷ []) × (m < 256)
code_consumes (octet ∷ []) m is e = let same : octet ≡ m = done_injective _ _ e in rw (← same) (refl, is.0)
code_consumes [] m is e = absurd cc
code_consumes (octet ∷ next ∷ octets) m is e = absurd cc

pub code_errors : (c : List ℕ) → IfErr (read_code c) IsOfInput
code_errors (octet ∷ []) = tt
code_errors [] = λ e. cc
code_errors (octet ∷ next ∷ octets) = λ e. cc

pub code_laws : ContentLaws code_content
code_laws = basic_laws _ (record {
  consumes = code_consumes;
  read_back = λ m v. refl;
  errors = code_errors;
})
