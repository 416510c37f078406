use Rattle.std.proofs.Common.{rules, ◌≡◌, length, Some, ap}
use Rattle.asn1_core.proofs.Bodies.{KnowsLength_Announces, Appended_one_encoding}
use Rattle.asn1_core.proofs.types.TlvAsn1Writable.write.Goals as goal

pub write_tlv-requires-clause-announced : goal.write_tlv-requires-clause-announced
write_tlv-requires-clause-announced c = KnowsLength_Announces _ _ (λ t. t ≡ c.args.self.now.«data».now) (λ old new h. search rules) (Some (length c.args.self.now.«data».now)) (λ t e. ap length e)

pub returns-clause-ok : goal.returns-clause-ok
returns-clause-ok c = Appended_one_encoding _ _ c.args.self.now.«data».now (λ old new h. search rules) _ _ _ _ c.write_tlv.ensures.ok
