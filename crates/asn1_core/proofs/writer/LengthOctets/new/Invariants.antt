use Rattle.std.proofs.Common.{◌≡◌, ◌+◌, ◌++◌, ◌≤◌, length, drop}
use Rattle.std.specs.Int.Digits.{digits_of}
use Rattle.asn1_core.proofs.writer.LengthOctets.new.Given as goal

-- the digits that are left, before those that are written, are all the digits
abbrev pub invariant-loop-rest : goal.invariant-loop-rest
invariant-loop-rest l = record {
  size : length l.octets ≡ 9;
  within : l.start ≤ 9;
  place : l.start + length (digits_of 256 l.n) ≡ 9 + length (digits_of 256 l.rest);
  whole : digits_of 256 l.rest ++ drop l.start l.octets ≡ digits_of 256 l.n;
}

abbrev pub decreases-loop-rest : goal.decreases-loop-rest
decreases-loop-rest l = l.rest
