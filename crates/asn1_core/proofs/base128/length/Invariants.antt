use Rattle.std.proofs.Common.{◌≡◌, ◌+◌, ◌/◌, length}
use Rattle.std.specs.Int.Digits.{digits_of}
use Rattle.asn1_core.proofs.base128.length.Given as goal

abbrev pub invariant-loop-rest : goal.invariant-loop-rest
invariant-loop-rest l = l.count + length (digits_of 128 l.rest) ≡ 1 + length (digits_of 128 (l.n / 128))

abbrev pub decreases-loop-rest : goal.decreases-loop-rest
decreases-loop-rest l = l.rest
