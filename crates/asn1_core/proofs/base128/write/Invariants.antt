use Rattle.std.proofs.Common.{◌≡◌, ◌+◌, ◌++◌, length, drop, map}
use Rattle.std.specs.Int.Digits.{digits_of}
use Rattle.asn1_core.specs.Base128.{number_octets}
use Rattle.asn1_core.proofs.base128.write.Given as goal

-- the digits that are left, before the written octets, complete the encoding
abbrev pub invariant-loop-i : goal.invariant-loop-i
invariant-loop-i l = record {
  left : length (digits_of 128 l.rest) ≡ l.i;
  whole : map (λ digit. 128 + digit) (digits_of 128 l.rest) ++ drop l.i l.octets ≡ number_octets l.n ++ drop l.count l.fn.octets;
}
