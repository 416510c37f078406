use Rattle.std.proofs.Common.{◌≡◌, ℕ, ◌+◌, ◌-◌, ◌^◌, ◌<◌, ◌≤◌, length, Fits, w64, arith}
use Rattle.asn1.specs.Lemmas.Texts.{IsOctets_from_reads}
use Rattle.dercheck.specs.Frames.{IsWhole, IsSplit}
use Rattle.dercheck.proofs.Headers.{header_open, header_whole}
use Rattle.dercheck.proofs.header.read_header.Goals as goal

sum_fits : (needed count n k : ℕ) → needed ≡ n - k → n < 2 ^ 32 → count ≤ 20 → Fits w64 (needed + count)
sum_fits needed count n k missing small few = omega arith

pub overflow_add-result : goal.overflow_add-result
overflow_add-result c =
    let octets = IsOctets_from_reads c.args.octets.now (λ i. omega (arith, c.type_inv.octets i)) in
    let split : IsSplit c.args.octets.now c.in-Some.tag c.in-Some.content = c.in-Some.ensures in
    let whole : IsWhole c.args.octets.now c.in-Some.tag (c.in-Ok.needed + c.in-Some.content) c.in-Ok.needed =
    header_whole c.args.octets.now c.in-Ok.needed c.in-Some.tag c.in-Some.content octets c.in-Ok.ensures split in
    sum_fits c.in-Ok.needed c.in-Some.content whole.n (length whole.content) whole.missing whole.begun.length_small (omega (arith, split.tag_octets, split.content_octets, c.requires))

pub returns-in-None : goal.returns-in-None
returns-in-None c =
    header_open c.args.octets.now c.in-Ok.needed (IsOctets_from_reads c.args.octets.now (λ i. omega (arith, c.type_inv.octets i))) c.in-Ok.ensures c.in-None.ensures

pub returns-in-Some : goal.returns-in-Some
returns-in-Some c =
    header_whole c.args.octets.now c.in-Ok.needed c.in-Some.tag c.in-Some.content (IsOctets_from_reads c.args.octets.now (λ i. omega (arith, c.type_inv.octets i))) c.in-Ok.ensures c.in-Some.ensures
