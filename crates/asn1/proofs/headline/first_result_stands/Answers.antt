use Rattle.std.proofs.Common.{◌≡◌, ℕ, List, Result, Ok, Err, sym, ap, subst, ◌∙◌, arith}
use Rattle.std.specs.Borrow.{Bor}
use Rattle.asn1_core.specs.declared.types.Tlv.{Tlv}
use Rattle.asn1_core.specs.declared.parser.ParseErrorKind.{ParseErrorKind}
use Rattle.asn1_core.specs.Base256.{IsOctets}
use Rattle.asn1_core.specs.Element.{Element, leading_element}
use Rattle.asn1_core.specs.ReadError.{ReadError, ReturnsPlain}
use Rattle.asn1_core.specs.Tlv.{element_of, stripped}
use Rattle.asn1_core.specs.Lemmas.Texts.{IsOctets_from_reads, IsOctets_suffix}
use Rattle.asn1.proofs.headline.first_result_stands.Goals as goal

stripped_is : (result : Result (Tlv × Bor (List ℕ)) ReadError) (answer : Result (Element × List ℕ) ParseErrorKind)
    → ReturnsPlain (λ x. (element_of x.0, x.1.now)) result answer → stripped result ≡ answer
stripped_is (Ok x) answer e = sym e
stripped_is (Err f) answer e = sym e.0

pub returns : goal.returns
returns c more is long =
    let longer = c.args.longer.now in
    let all : IsOctets longer = IsOctets_from_reads longer (λ i. omega (arith, c.type_inv.longer i)) in
    let more_is : IsOctets more = IsOctets_suffix c.args.data.now more (subst IsOctets is all) in
    stripped_is _ (leading_element longer) c.strip_tlv-2.ensures.exact
    ∙ (ap leading_element is ∙ c.strip_tlv.ensures.stays more more_is long)
