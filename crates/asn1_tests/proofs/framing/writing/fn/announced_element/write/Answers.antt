use Rattle.std.proofs.Common.{rules, ◌≡◌, Some, length, ap, refl}
use Rattle.asn1_core.proofs.Bodies.{KnowsLength_Announces, KeepsPrefix_result}
use Rattle.asn1_tests.proofs.framing.writing.fn.announced_element.write.Goals as goal

pub write_tlv-requires : goal.write_tlv-requires
write_tlv-requires c = record {
  callable = search rules;
  front = λ old r new h. KeepsPrefix_result r c.captures.octets.now old.bytes new.bytes (search rules) (search rules);
  announced = KnowsLength_Announces _ _ (λ t. t ≡ c.captures.octets.now) (λ old new h. record { encoding = c.captures.octets.now; is_one = refl; joined = search rules }) (Some (length c.captures.octets.now)) (λ t e. ap length e);
}
