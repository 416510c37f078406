use Rattle.std.proofs.Common.{◌≡◌, ◌<◌, ◌^◌, take}
use Rattle.asn1_core.specs.Base256.{number}
use Rattle.asn1_core.proofs.parser.number_in.Given as goal

abbrev pub invariant-loop-octet : goal.invariant-loop-octet
invariant-loop-octet l = record {
  value : l.n ≡ number (take l.octet-index l.octets);
  below : l.n < 256 ^ l.octet-index;
}
