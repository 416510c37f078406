use Rattle.std.proofs.Common.{◌∙◌, ◌⊎◌, refl, sym, ap, arith, inl, inr}
use Rattle.std.specs.Prelude.{◌<ℤ◌, FitsSigned}
use Rattle.std.specs.Int.{w128}
use Rattle.std.proofs.lemmas.Int.{ints, to_z-of_z}
use Rattle.asn1_core.specs.declared.parser.ParseErrorKind.TheVariants.{InvalidValue}
use Rattle.asn1_core.specs.ReadError.{read_error}
use Rattle.asn1_core.specs.Lemmas.Texts.{IsOctets_from_reads}
use Rattle.asn1_core.proofs.Integers.{read_sized_refused_contents, read_sized_out_of_range, read_sized_ok, read_sized_too_long}
use Rattle.asn1_core.proofs.types.integers.read.Goals as goal
use Rattle.asn1_core.proofs.types.integers.read.Goals.{then-number-low-via-then-number-low, then-number-low-via-else-number-low+then-number-high}

pub returns-then-not-is_integer_content-clause-exact : goal.returns-then-not-is_integer_content-clause-exact
returns-then-not-is_integer_content-clause-exact c =
    inl (read_sized_refused_contents c.args.low c.args.high c.args.octets.now (read_error InvalidValue) (sym c.is_integer_content.ensures ∙ c.if-not-is_integer_content.true) refl)

pub returns-then-octets-gt-MAX_CONTENT_OCTETS-clause-exact : goal.returns-then-octets-gt-MAX_CONTENT_OCTETS-clause-exact
returns-then-octets-gt-MAX_CONTENT_OCTETS-clause-exact c =
    let octets = c.args.octets.now in
    let shortest = sym c.is_integer_content.ensures ∙ c.if-not-is_integer_content.false in
    let fits : FitsSigned w128 c.args.low = c.ranges.low in
    let kind = simp to_z-of_z at c.beyond.ensures in
    inl (read_sized_too_long c.args.low c.args.high octets (read_error c.beyond.result) (IsOctets_from_reads octets (λ k. omega (arith, c.type_inv.octets k))) shortest c.if-octets-gt-MAX_CONTENT_OCTETS.true c.requires.least c.requires.greatest c.requires.ordered (ap read_error kind))

pub returns-then-number-low-clause-exact : goal.returns-then-number-low-clause-exact
returns-then-number-low-clause-exact c =
    let octets = c.args.octets.now in
    let number = c.signed_number-number.result in
    let shortest = sym c.is_integer_content.ensures ∙ c.if-not-is_integer_content.false in
    let fits : FitsSigned w128 c.args.low = c.ranges.low in
    let fits_number : FitsSigned w128 number = record { sfits = c.signed_number-number.type_inv } in
    let kind = simp to_z-of_z at c.beyond-then-number-low.ensures in
    let way : (number <ℤ c.args.low) ⊎ (c.args.high <ℤ number) = elim c.then-number-low.branch [
      | then-number-low-via-then-number-low w ↦ inl (omega (arith, ints))
      | then-number-low-via-else-number-low+then-number-high w ↦ inr (omega (arith, ints))
    ] in
    inl (read_sized_out_of_range c.args.low c.args.high number octets (read_error c.beyond-then-number-low.result) shortest c.signed_number-number.ensures (ap read_error kind) c.requires.ordered way)

pub returns-clause-exact : goal.returns-clause-exact
returns-clause-exact c =
    let number = c.signed_number-number.result in
    let shortest = sym c.is_integer_content.ensures ∙ c.if-not-is_integer_content.false in
    let fits_number : FitsSigned w128 number = record { sfits = c.signed_number-number.type_inv } in
    simp to_z-of_z (read_sized_ok c.args.low c.args.high c.args.octets.now number shortest c.signed_number-number.ensures (omega (arith, ints)) (omega (arith, ints)))
