use Rattle.asn1_values.specs.Lemmas.Big.{IsUnsignedForm_IsUnsigned, appends_signed}
use Rattle.asn1_values.proofs.values.big.BigUintSimpleAsn1Writable.write_data.Goals as goal

pub returns-clause-ok : goal.returns-clause-ok
returns-clause-ok c = appends_signed c.push_slice.result c.args.self.now.octets.now c.args.dest.now.bytes c.push_slice.new.self.bytes (IsUnsignedForm_IsUnsigned c.args.self.now.octets.now c.args.self.now.is_content).0 c.push_slice.ensures.ok
