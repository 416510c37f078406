use Rattle.asn1.proofs.WrittenRows.{IsWrittenAs_Both}
use Rattle.asn1.proofs.laws_wrappers.rows_are_written.Goals as goal

pub returns-clause-field : goal.returns-clause-field
returns-clause-field g c row m n first others =
    let d = g.A.Asn1Type.der in
    let list = g.R.Row.list in
    IsWrittenAs_Both {L = d.Meaning × list.Meaning} (λ v. (m v, n v)) (λ x. x.0) (λ x. x.1) d.encodings d.closures (λ v. g.K.FieldWritable.encodings (row v).value.now) (λ v. g.K.FieldWritable.owes (row v).value.now)
    list.fields.encodings list.fields.closures (λ v. g.W.RowWritable.encodings (row v).rest) (λ v. g.W.RowWritable.owes (row v).rest) first others
