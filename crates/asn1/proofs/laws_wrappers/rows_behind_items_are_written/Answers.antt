use Rattle.asn1.proofs.WrittenRows.{IsWrittenAs_Both}
use Rattle.asn1.proofs.laws_wrappers.rows_behind_items_are_written.Goals as goal

pub returns-clause-value : goal.returns-clause-value
returns-clause-value g c row m n first others =
    let value = g.C.DefinedField.both.value in
    let list = g.R.Row.list in
    IsWrittenAs_Both {L = value.Meaning × list.Meaning} (λ v. (m v, n v)) (λ x. x.0) (λ x. x.1) value.encodings value.closures (λ v. g.K.FieldWritable.encodings (row v).value.now) (λ v. g.K.FieldWritable.owes (row v).value.now)
    list.fields.encodings list.fields.closures (λ v. g.W.RowWritable.encodings (row v).rest) (λ v. g.W.RowWritable.owes (row v).rest) first others

pub returns-clause-before : goal.returns-clause-before
returns-clause-before g c row m n first others =
    let d = g.A.Asn1Type.der in
    let behind = g.B.RowBehind.behind in
    IsWrittenAs_Both {L = d.Meaning × behind.Meaning} (λ v. (m v, n v)) (λ x. x.0) (λ x. x.1) d.encodings d.closures (λ v. g.K.FieldWritable.encodings (row v).value.now) (λ v. g.K.FieldWritable.owes (row v).value.now)
    behind.fields.encodings behind.fields.closures (λ v. g.W.RowWritable.encodings (row v).rest) (λ v. g.W.RowWritable.owes (row v).rest) first others

pub returns-clause-item : goal.returns-clause-item
returns-clause-item g c row n first others =
    let behind = g.B.RowBehind.behind in
    IsWrittenAs_Both n behind.fields.item (λ m. m) behind.item.encodings behind.item.closures (λ v. g.K.FieldWritable.encodings (row v).value.now) (λ v. g.K.FieldWritable.owes (row v).value.now)
    behind.fields.encodings behind.fields.closures (λ v. g.W.RowWritable.encodings (row v).rest) (λ v. g.W.RowWritable.owes (row v).rest) first others
