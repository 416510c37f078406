use Rattle.std.proofs.Common.{◌≡◌, ◌≤◌, length, take}
use Rattle.asn1_core.specs.Base128.{digits_number, IsOpen, BeginsWithZero}
use Rattle.asn1_core.proofs.base128.read_number.Given as goal

-- the octets read so far are open, and the number is the one of their digits
abbrev pub invariant-loop-i : goal.invariant-loop-i
invariant-loop-i l = record {
  within : l.i ≤ length l.octets;
  open_so_far : IsOpen (take l.i l.octets);
  shortest : ¬ BeginsWithZero (take l.i l.octets);
  value : l.number ≡ digits_number (take l.i l.octets);
}
