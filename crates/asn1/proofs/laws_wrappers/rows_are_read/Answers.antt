use Rattle.asn1.specs.Fields.{first_name, other_names}
use Rattle.asn1.proofs.ReadRows.{Returns_field_read_more}
use Rattle.asn1.proofs.laws_wrappers.rows_are_read.Goals as goal

pub returns-clause-field : goal.returns-clause-field
returns-clause-field g c same names octets result =
    let d = g.A.Asn1Type.der in
    let a = g.R.Row.list in
    let b = g.R.RowReadable.list in
    let others = other_names names in (
      Returns_field_read_more _ _ a.meaning b.meaning (first_name names) d.read d.runs_out (a.fields.read others) (a.fields.runs_out others) (b.fields.read others) (b.fields.runs_out others)
          (λ t r. (same others t r).0) octets result,
      Returns_field_read_more _ _ b.meaning a.meaning (first_name names) d.read d.runs_out (b.fields.read others) (b.fields.runs_out others) (a.fields.read others) (a.fields.runs_out others)
          (λ t r. (same others t r).1) octets result,
    )
