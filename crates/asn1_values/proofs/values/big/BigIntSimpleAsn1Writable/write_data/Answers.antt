use Rattle.asn1_values.specs.Lemmas.Big.{IsSignedForm_IsSigned, appends_signed}
use Rattle.asn1_values.proofs.values.big.BigIntSimpleAsn1Writable.write_data.Goals as goal

pub returns-clause-ok : goal.returns-clause-ok
returns-clause-ok c = appends_signed c.push_slice.result c.args.self.now.octets.now c.args.dest.now.bytes c.push_slice.new.self.bytes (IsSignedForm_IsSigned c.args.self.now.octets.now c.args.self.now.is_content) c.push_slice.ensures.ok
