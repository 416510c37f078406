use Rattle.std.proofs.Common.{◌≡◌, Ok, subst}
use Rattle.asn1_core.specs.Base256.{IsOctets}
use Rattle.asn1_core.specs.Listing.{encoding_less}
use Rattle.asn1_core.specs.Element.{leading_element}
use Rattle.asn1_core.specs.Tlv.{element_of}
use Rattle.asn1_core.specs.Lemmas.Results.{framed_ok}
use Rattle.asn1.specs.Lemmas.SetItems.{set_next_cut, Returns_NextItem}
use Rattle.asn1_core.specs.Lemmas.Facts.{not_nil}
use Rattle.asn1_core.specs.Lemmas.Listing.{encoding_less_nil}
use Rattle.asn1.proofs.lists.sets.read_first.Goals as goal

pub returns-clause-item : goal.returns-clause-item
returns-clause-item g c =
    let d = g.T.Asn1Type.der in
    let t = c.args.parser.now in
    let found : leading_element t ≡ Ok (element_of c.in-Ok.tlv, c.read_element.new.self) = framed_ok (leading_element t) _ c.in-Ok.ensures.answers in
    let x = set_next_cut encoding_less d.read d.encoding (λ m. d.valid m × d.allowed m) d.laws.consumes encoding_less_nil t (element_of c.in-Ok.tlv) c.read_element.new.self (subst IsOctets c.rest.ensures.same c.known.ensures) (not_nil _ c.requires.some) c.requires.are_ordered found in
    Returns_NextItem d.meaning d.runs_out c.parse.result _ x.0 t (element_of c.in-Ok.tlv) c.read_element.new.self _ _ found c.parse.ensures.exact x.1 x.2

pub returns-clause-after : goal.returns-clause-after
returns-clause-after g c =
    let d = g.T.Asn1Type.der in
    let t = c.args.parser.now in
    let x = set_next_cut encoding_less d.read d.encoding (λ m. d.valid m × d.allowed m) d.laws.consumes encoding_less_nil t (element_of c.in-Ok.tlv) c.read_element.new.self (subst IsOctets c.rest.ensures.same c.known.ensures) (not_nil _ c.requires.some) c.requires.are_ordered (framed_ok (leading_element t) _ c.in-Ok.ensures.answers) in
    x.3

pub returns-clause-shorter : goal.returns-clause-shorter
returns-clause-shorter g c =
    let d = g.T.Asn1Type.der in
    let t = c.args.parser.now in
    let x = set_next_cut encoding_less d.read d.encoding (λ m. d.valid m × d.allowed m) d.laws.consumes encoding_less_nil t (element_of c.in-Ok.tlv) c.read_element.new.self (subst IsOctets c.rest.ensures.same c.known.ensures) (not_nil _ c.requires.some) c.requires.are_ordered (framed_ok (leading_element t) _ c.in-Ok.ensures.answers) in
    x.4
