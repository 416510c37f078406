use Rattle.std.proofs.Common.{get_or, refl, sym, ap, ◌∙◌, inl, inr, arith}
use Rattle.std.proofs.lemmas.List.{take_rest}
use Rattle.std.proofs.lemmas.Nat.{and_mask}
use Rattle.asn1_core.specs.Base128.{leading_number}
use Rattle.asn1_core.specs.Lemmas.Tags.{leading_tag_empty, leading_tag_low, leading_tag_short, leading_tag_bad_number, leading_tag_out_of_range, leading_tag_found}
use Rattle.asn1_core.proofs.tag.Tag.read.Goals as goal
use Rattle.asn1_core.proofs.tag.Tag.read.Goals.{then-number-from-via-then-number-from, then-number-from-via-else-number-from+then-number-from-2}

pub returns-in_default : goal.returns-in_default
returns-in_default c = leading_tag_empty c.args.octets.now (omega arith)

pub returns-then-low-lt-LONG_FORM : goal.returns-then-low-lt-LONG_FORM
returns-then-low-lt-LONG_FORM c =
    let octets = c.args.octets.now in
    let low = and_mask (get_or octets 0 0) 5 in
    rw (c.from_first_octet.ensures, c.from.ensures, low, take_rest octets 1) (leading_tag_low octets c.in-len1-up.len_at_least (omega (arith, low)))

pub returns-then-number-from : goal.returns-then-number-from
returns-then-number-from c =
    let octets = c.args.octets.now in
    let low = and_mask (get_or octets 0 0) 5 in
    let found = c.in-Ok.found in
    leading_tag_out_of_range octets found.0 found.1.now c.in-len1-up.len_at_least (omega (arith, low)) (ap leading_number (sym (take_rest octets 1)) ∙ c.in-Ok.ensures)
    (elim c.then-number-from.branch [ then-number-from-via-then-number-from w ↦ inl (omega arith) | then-number-from-via-else-number-from+then-number-from-2 w ↦ inr (omega arith) ])

pub returns : goal.returns
returns c =
    let octets = c.args.octets.now in
    let low = and_mask (get_or octets 0 0) 5 in
    let found = c.in-Ok.found in
    rw c.from_first_octet-2.ensures (leading_tag_found octets found.0 found.1.now c.in-len1-up.len_at_least (omega (arith, low)) (ap leading_number (sym (take_rest octets 1)) ∙ c.in-Ok.ensures) (omega arith) (omega arith))

pub returns-in-ShortData : goal.returns-in-ShortData
returns-in-ShortData c =
    let octets = c.args.octets.now in
    let low = and_mask (get_or octets 0 0) 5 in
    let number = ap leading_number (sym (take_rest octets 1)) ∙ c.in-Err.ensures in
    rw c.in-ShortData.is (leading_tag_short octets c.in-ShortData.needed c.in-len1-up.len_at_least (omega (arith, low)) (number ∙ rw c.in-ShortData.is refl))

pub returns-in_default-kind : goal.returns-in_default-kind
returns-in_default-kind c =
    let octets = c.args.octets.now in
    let low = and_mask (get_or octets 0 0) 5 in
    let number = ap leading_number (sym (take_rest octets 1)) ∙ c.in-Err.ensures in
    leading_tag_bad_number octets c.in-Err.kind c.in-len1-up.len_at_least (omega (arith, low)) number (λ x e. c.in_default-kind.not-ShortData x e)
