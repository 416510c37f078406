use Rattle.std.proofs.Common.{◌≡◌, ℕ, List, Result, Ok, Err, ap}
use Rattle.std.specs.Prelude.{IsOkAnd}
use Rattle.std.specs.Borrow.{Bor}
use Rattle.asn1_core.specs.declared.types.Tlv.{Tlv}
use Rattle.asn1_core.specs.declared.parser.ParseErrorKind.{ParseErrorKind}
use Rattle.asn1_core.specs.Element.{Element}
use Rattle.asn1_core.specs.ReadError.{ReadError}
use Rattle.asn1_core.specs.Tlv.{element_of, stripped}
use Rattle.asn1.proofs.headline.cuts_off_the_element.Goals as goal

abbrev element_or : Element → Result (Element × List ℕ) ParseErrorKind → Element
element_or e (Ok x) = x.0
element_or e (Err kind) = e

abbrev rest_or : List ℕ → Result (Element × List ℕ) ParseErrorKind → List ℕ
rest_or rest (Ok x) = x.1
rest_or rest (Err kind) = rest

told : (result : Result (Tlv × Bor (List ℕ)) ReadError) (e : Element) (rest : List ℕ) → stripped result ≡ Ok (e, rest)
    → IsOkAnd result (λ x. (element_of x.0 ≡ e) × (x.1.now ≡ rest))
told (Ok x) e rest same = (ap (λ r. element_or e r) same, ap (λ r. rest_or rest r) same)
told (Err f) e rest same = absurd cc

pub returns-clause-each : goal.returns-clause-each
returns-clause-each c e rest h = told _ e rest (c.strip_tlv.ensures.only (Ok (e, rest)) (h.readable, h.is))
