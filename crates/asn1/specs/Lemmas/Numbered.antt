-- The laws of contents octets with the numbers of a list.
use Rattle.std.proofs.Common.{refl, ap, subst, ◌∙◌}
use Rattle.std.specs.Prelude.{ℕ, ℤ, pos, negsuc, ◌≤ℤ◌, ◌≡◌, List, Result, Ok, IfErr}
use Rattle.asn1_core.specs.declared.parser.ParseErrorKind.TheVariants.{InvalidValue}
use Rattle.asn1_core.specs.Base256.{IsOctets}
use Rattle.asn1_core.specs.ReadError.{ReadError, read_error, IsOfInput}
use Rattle.asn1_core.specs.Element.{◌>>=◌}
use Rattle.asn1_core.specs.Integer.{integer_content, read_sized}
use Rattle.asn1_core.specs.Lemmas.Integers.{sized_consumes, sized_read_back, sized_errors}
use Rattle.asn1_core.specs.Lemmas.Results.{bind_ok, done_injective, if_ok_is}
use Rattle.asn1_core.specs.Lemmas.Faults.{bind_errors, passed_errors}
use Rattle.asn1.specs.Listed.{largest, lists, IsListed, if_listed, read_listed}

abbrev done : ℤ → Result ℤ ReadError
done z = Ok z

if_listed_ok_is : (numbers : List ℕ) (z m : ℤ) → if_listed numbers z ≡ Ok m → (z ≡ m) × IsListed numbers m
if_listed_ok_is numbers (pos n) m e =
    let p = if_ok_is (lists numbers n) (Ok (pos n)) (read_error InvalidValue) m e in
    let same = done_injective _ _ p.1 in
    (same, subst (IsListed numbers) same p.0)
if_listed_ok_is numbers (negsuc n) m e = absurd cc

if_listed_IsListed : (numbers : List ℕ) (z : ℤ) → IsListed numbers z → if_listed numbers z ≡ Ok z
if_listed_IsListed numbers (pos n) listed = rw listed refl
if_listed_IsListed numbers (negsuc n) listed = absurd listed

not_listed_errors : (numbers : List ℕ) (z : ℤ) → IfErr (if_listed numbers z) IsOfInput
not_listed_errors numbers (pos n) = passed_errors (lists numbers n) (Ok (pos n)) InvalidValue tt (λ e. cc)
not_listed_errors numbers (negsuc n) = λ e. cc

pub listed_consumes : (numbers : List ℕ) (c : List ℕ) (m : ℤ) → IsOctets c → read_listed numbers c ≡ Ok m → (c ≡ integer_content m) × (((pos 0 ≤ℤ m) × (m ≤ℤ largest)) × IsListed numbers m)
listed_consumes numbers c m is e =
    let p = bind_ok (read_sized (pos 0) largest c) (if_listed numbers) m e in
    let q = if_listed_ok_is numbers p.0 m p.2 in
    let got = sized_consumes (pos 0) largest c m is (p.1 ∙ ap done q.0) in
    (got.0, (got.1, q.1))

pub listed_read_back : (numbers : List ℕ) (m : ℤ) → (pos 0 ≤ℤ m) × (m ≤ℤ largest) → IsListed numbers m → read_listed numbers (integer_content m) ≡ Ok m
listed_read_back numbers m range listed = ap (λ (r : Result ℤ ReadError). r >>= if_listed numbers) (sized_read_back (pos 0) largest m range) ∙ if_listed_IsListed numbers m listed

pub listed_errors : (numbers : List ℕ) (c : List ℕ) → IfErr (read_listed numbers c) IsOfInput
listed_errors numbers c = bind_errors (read_sized (pos 0) largest c) (if_listed numbers) (sized_errors (pos 0) largest c) (not_listed_errors numbers)
