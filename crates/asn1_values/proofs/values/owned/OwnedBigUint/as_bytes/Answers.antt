use Rattle.std.proofs.Common.{subst, sym}
use Rattle.asn1_values.specs.Big.{IsUnsigned}
use Rattle.asn1_values.specs.Lemmas.Big.{IsUnsignedForm_IsUnsigned}
use Rattle.asn1_values.proofs.values.owned.OwnedBigUint.as_bytes.Goals as goal

pub returns-clause-content : goal.returns-clause-content
returns-clause-content c = subst IsUnsigned (sym c.as_slice.ensures.value) (IsUnsignedForm_IsUnsigned c.args.self.now.octets.items c.args.self.now.is_content)
