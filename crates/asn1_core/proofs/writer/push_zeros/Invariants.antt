use Rattle.std.proofs.Common.{◌≡◌, ◌+◌, ◌-◌, ◌≤◌, ◌++◌, replicate, vec_capacity, vec_len}
use Rattle.asn1_core.proofs.writer.push_zeros.Given as goal

-- so many zeros were appended as turns were taken, and there is room for the others
abbrev pub invariant-loop : goal.invariant-loop
invariant-loop l = record {
  items : l.octets.items ≡ l.initial.octets.items ++ replicate l.counter 0;
  room : vec_len l.octets + (l.count - l.counter) ≤ vec_capacity l.octets;
}
