use Rattle.std.proofs.Common.{◌≡◌, ◌-◌, length}
use Rattle.asn1.specs.ErrorOctets.{innermost}
use Rattle.asn1.proofs.error_octets.innermost.Given as goal

abbrev pub invariant-elements : goal.invariant-elements
invariant-elements l = innermost (length l.octets - l._depth) l.begin l.around l.octet ≡ innermost (length l.octets) 0 l.octets l.fn.octet
