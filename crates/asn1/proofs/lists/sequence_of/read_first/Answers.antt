use Rattle.std.proofs.Common.{refl, ap, subst, ◌∙◌}
use Rattle.asn1_core.specs.Base256.{IsOctets}
use Rattle.asn1_core.specs.Element.{leading_element}
use Rattle.asn1.specs.Lemmas.ListItems.{left_cons, AreItems_leading_element, Ok_not_Err}
use Rattle.asn1_core.specs.Lemmas.Facts.{not_nil}
use Rattle.asn1.proofs.lists.sequence_of.read_first.Goals as goal

pub returns-in-Ok-clause-item : goal.returns-in-Ok-clause-item
returns-in-Ok-clause-item g c =
    let t = g.T.Asn1Type.der in
    (left_cons t.read t.encoding (λ m. t.valid m × t.allowed m) t.laws.consumes c.args.parser.now c.args.count _ _ (subst IsOctets c.rest-items.ensures.same c.known.ensures) (not_nil _ c.requires.some) c.requires.are_items c.in-Ok.ensures.answers).0

pub returns-in-Ok-clause-after : goal.returns-in-Ok-clause-after
returns-in-Ok-clause-after g c =
    let t = g.T.Asn1Type.der in
    (left_cons t.read t.encoding (λ m. t.valid m × t.allowed m) t.laws.consumes c.args.parser.now c.args.count _ _ (subst IsOctets c.rest-items.ensures.same c.known.ensures) (not_nil _ c.requires.some) c.requires.are_items c.in-Ok.ensures.answers).1

pub returns-in-Err-clause-item : goal.returns-in-Err-clause-item
returns-in-Err-clause-item g c =
    let t = g.T.Asn1Type.der in
    let x = AreItems_leading_element t.read t.encoding (λ m. t.valid m × t.allowed m) t.laws.consumes c.args.parser.now c.args.count (subst IsOctets c.rest-items.ensures.same c.known.ensures) (not_nil _ c.requires.some) c.requires.are_items in
    let k = Ok_not_Err _ _ x.0 c.in-Err.error x.1.reads refl c.in-Err.ensures.answers in
    (x.0.0, rw (c.new.ensures ∙ c.behind_element.ensures (x.2, x.0.1) (ap leading_element c.rest-items.ensures.same ∙ x.3)) x.1.lists, k.0, k.1)

pub returns-in-Err-clause-after : goal.returns-in-Err-clause-after
returns-in-Err-clause-after g c =
    let t = g.T.Asn1Type.der in
    let x = AreItems_leading_element t.read t.encoding (λ m. t.valid m × t.allowed m) t.laws.consumes c.args.parser.now c.args.count (subst IsOctets c.rest-items.ensures.same c.known.ensures) (not_nil _ c.requires.some) c.requires.are_items in
    rw (c.new.ensures ∙ c.behind_element.ensures (x.2, x.0.1) (ap leading_element c.rest-items.ensures.same ∙ x.3)) x.1.after
