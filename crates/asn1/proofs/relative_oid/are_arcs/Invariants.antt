use Rattle.std.proofs.Common.{◌≡◌, length}
use Rattle.std.specs.Prelude.{is_some}
use Rattle.asn1_core.specs.Base256.{IsOctets}
use Rattle.asn1_values.specs.Identifier.{numbers_in}
use Rattle.asn1.proofs.relative_oid.are_arcs.Given as goal

-- the remaining octets decide
abbrev pub invariant-loop-rest : goal.invariant-loop-rest
invariant-loop-rest l = record {
  octets : IsOctets l.rest;
  same : is_some (numbers_in l.rest) ≡ is_some (numbers_in l.octets);
}

abbrev pub decreases-loop-rest : goal.decreases-loop-rest
decreases-loop-rest l = length l.rest
