use Rattle.std.proofs.Common.{List, ℕ, Result, Ok, Err, sym, ◌∙◌, arith}
use Rattle.std.specs.Prelude.{IfOk, IsOk}
use Rattle.std.proofs.lemmas.List.{append-nil}
use Rattle.asn1_core.specs.Base256.{IsOctets}
use Rattle.asn1_core.specs.ReadError.{ReadError}
use Rattle.asn1_core.specs.Reading.{Returns, whole}
use Rattle.asn1_core.specs.Der.{Der}
use Rattle.asn1_core.specs.Lemmas.Texts.{IsOctets_from_reads}
use Rattle.asn1_core.specs.Lemmas.Wholes.{whole_consumes}
use Rattle.asn1_core.proofs.Inside.{Encodes_injective}
use Rattle.asn1.specs.Headline.{Encodes}
use Rattle.asn1.proofs.headline.reads_the_one_encoding.Goals as goal

module _ {V : Type 0} (d : Der V) (octets : List ℕ) where
  found : (result : Result V ReadError) → IsOctets octets → Returns d.meaning (d.runs_out octets) result (whole (d.read octets))
      → IfOk result (λ v. Encodes d (d.meaning v) octets)
  found (Ok v) is e =
      let h = whole_consumes d.encoding (λ x. d.valid x × d.allowed x) d.read d.laws.consumes octets (d.meaning v) is e in
      record { is = h.0.is ∙ append-nil (d.encoding (d.meaning v)); valid = h.1.0; allowed = h.1.1; fits = h.0.one }
  found (Err f) is e = tt

  some : (result : Result V ReadError) → IfOk result (λ v. Encodes d (d.meaning v) octets) → IsOk result
      → (m : d.Meaning) × Encodes d m octets
  some (Ok v) h ok = (d.meaning v, h)
  some (Err f) h ok = absurd cc

pub returns-clause-found : goal.returns-clause-found
returns-clause-found g c =
    let octets = c.args.data.now in
    let is : IsOctets octets = IsOctets_from_reads octets (λ i. omega (arith, c.type_inv.data i)) in
    found g.T.Asn1Type.der octets _ is c.parse_single.ensures.exact

pub returns-clause-exactly : goal.returns-clause-exactly
returns-clause-exactly g c none = (
  some g.T.Asn1Type.der c.args.data.now c.parse_single.result (returns-clause-found g c),
  λ x. c.parse_single.ensures.some c.requires none x.0 x.1.valid x.1.allowed x.1.fits x.1.is,
)

pub returns-clause-one : goal.returns-clause-one
returns-clause-one g c m n h k = Encodes_injective g.T.Asn1Type.der c.args.data.now m n c.requires h k

pub returns-clause-alone : goal.returns-clause-alone
returns-clause-alone g c m n v w is is_too =
    g.T.Asn1Type.der.laws.one_value c.can_parse-accepted.ensures.read m n c.requires v w (is ∙ sym is_too)
