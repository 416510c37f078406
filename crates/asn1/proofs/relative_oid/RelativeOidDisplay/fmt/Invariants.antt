use Rattle.std.proofs.Common.{◌≡◌, ℕ, List, ◌++◌, length, true, is_some}
use Rattle.std.specs.Fmt.{HasWritten, IsPlainFormatter}
use Rattle.asn1_core.specs.Base256.{IsOctets}
use Rattle.asn1_values.specs.Identifier.{numbers_in, identifier_numbers}
use Rattle.asn1_values.specs.IdentifierSteps.{others_text}
use Rattle.asn1.specs.Relative.{arcs_text}
use Rattle.asn1.specs.RelativeValues.{relative_arcs}
use Rattle.asn1.proofs.relative_oid.RelativeOidDisplay.fmt.Given as goal

-- what is written so far, and what the remaining arcs display, are the dotted form
abbrev pub invariant-loop-rest : goal.invariant-loop-rest
invariant-loop-rest g l = record {
  octets : IsOctets l.rest;
  cuts : is_some (numbers_in l.rest) ≡ true;
  shown : IsPlainFormatter l.fn.f → (so_far : List ℕ) × HasWritten g.W.Write.write_str_gives l.fn.f so_far l.f × (so_far ++ others_text (identifier_numbers l.rest) ≡ arcs_text (relative_arcs l.self));
}

abbrev pub decreases-loop-rest : goal.decreases-loop-rest
decreases-loop-rest g l = length l.rest
