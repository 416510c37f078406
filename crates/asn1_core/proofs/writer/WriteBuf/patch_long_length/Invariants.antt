use Rattle.std.proofs.Common.{◌≡◌, ◌+◌, ◌-◌, ◌++◌, length, take, drop}
use Rattle.std.specs.Int.Digits.{digits_of}
use Rattle.asn1_core.proofs.writer.WriteBuf.patch_long_length.Given as goal

-- the digits that are left, before those that are written, are all the digits
abbrev pub invariant-loop-place : goal.invariant-loop-place
invariant-loop-place l =
    let now = l.self-inside.octets.items in
    let moved = l.initial.self-inside.octets.items in
    record {
      size : length now ≡ l.len + l.more;
      front : take l.start now ≡ take l.start moved;
      left : l.start + length (digits_of 256 l.rest) ≡ l.place;
      whole : digits_of 256 l.rest ++ drop l.place now ≡ digits_of 256 (l.len - l.start) ++ drop (l.start + l.more) moved;
    }
