use Rattle.std.proofs.Common.{length, ap, arith}
use Rattle.std.proofs.lemmas.List.{length-append}
use Rattle.asn1.specs.Tag.{identifier_octets}
use Rattle.asn1.specs.Lemmas.Texts.{IsOctets_from_reads}
use Rattle.dercheck.proofs.Headers.{leading_tag_ok_is}
use Rattle.dercheck.proofs.header.header_parts.Goals as goal

pub overflow_sub-result : goal.overflow_sub-result
overflow_sub-result c =
    let parts = leading_tag_ok_is c.args.octets.now c.in-Ok.field-0-0 c.in-Ok.after.now (IsOctets_from_reads c.args.octets.now (λ i. omega (arith, c.type_inv.octets i))) c.in-Ok.ensures in
    omega (arith, ap length parts.1, length-append (identifier_octets c.in-Ok.field-0-0) c.in-Ok.after.now)

pub returns : goal.returns
returns c =
    let parts = leading_tag_ok_is c.args.octets.now c.in-Ok.field-0-0 c.in-Ok.after.now (IsOctets_from_reads c.args.octets.now (λ i. omega (arith, c.type_inv.octets i))) c.in-Ok.ensures in
    let sizes = length-append (identifier_octets c.in-Ok.field-0-0) c.in-Ok.after.now in
    let whole = ap length parts.1 in
    record {
      tag = c.in-Ok.field-0-0;
      after = c.in-Ok.after.now;
      found = c.in-Ok.ensures;
      holds = omega arith;
      tag_octets = omega arith;
      content_octets = omega arith;
    }
