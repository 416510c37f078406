use Rattle.std.proofs.Common.{rules}
use Rattle.asn1_core.proofs.Bodies.{KeepsPrefix_result}
use Rattle.asn1_tests.proofs.framing.writing.fn.patched_element.write.Goals as goal

pub write_tlv-requires : goal.write_tlv-requires
write_tlv-requires c = record {
  callable = search rules;
  front = λ old r new h. KeepsPrefix_result r c.captures.octets.now old.bytes new.bytes (search rules) (search rules);
  announced = tt;
}
