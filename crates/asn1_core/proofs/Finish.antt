-- What is returned at the end of the input.
use Rattle.std.proofs.Common.{◌≡◌, ℕ, List, [], ◌∷◌, Result, Ok, Err, refl, subst}
use Rattle.std.specs.Prelude.{IsErrAnd}
use Rattle.asn1_core.specs.declared.parser.ParseErrorKind.TheVariants.{ExtraData}
use Rattle.asn1_core.specs.ReadError.{ReadError, read_error}
use Rattle.asn1_core.specs.Reading.{PassesOn, rest_rejected}

pub finished_err : {T E : Type 0} (gives : ReadError → E → Type 0) (v : T) (rest : List ℕ) (f : ReadError) (result : Result T E) → rest_rejected rest ≡ Err f → IsErrAnd result (gives f) → PassesOn gives (Ok v) rest result
finished_err gives v [] f result e h = absurd cc
finished_err gives v (octet ∷ octets) f result e h = let is : f ≡ read_error ExtraData = cc in subst (λ (x : ReadError). IsErrAnd result (gives x)) is h

pub finished_ok : {T E : Type 0} (gives : ReadError → E → Type 0) (v : T) (rest : List ℕ) (u : Unit {0}) → rest_rejected rest ≡ Ok u → PassesOn gives (Ok v) rest (Ok v)
finished_ok gives v [] u e = refl
finished_ok gives v (octet ∷ octets) u e = absurd cc
