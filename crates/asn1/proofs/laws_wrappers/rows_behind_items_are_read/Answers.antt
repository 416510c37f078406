use Rattle.asn1.specs.Fields.{first_name, other_names}
use Rattle.asn1.proofs.ReadRows.{Returns_field_read_more, Returns_item_read_more, seen_front_id_read}
use Rattle.asn1.proofs.laws_wrappers.rows_behind_items_are_read.Goals as goal

pub returns-clause-last_value : goal.returns-clause-last_value
returns-clause-last_value g c = record {
  stands_for = λ m. m;
  item = seen_front_id_read g.C.DefinedField.both.item.read;
  item_runs_out = λ octets places. (λ out. out, λ out. out);
  fields = λ names m octets result. (λ h. h, λ h. h);
}

pub returns-clause-value : goal.returns-clause-value
returns-clause-value g c same =
    let both = g.C.DefinedField.both in
    let a = g.R.Row.list in
    let b = g.R.RowReadable.list in
    record {
      stands_for = λ m. m;
      item = seen_front_id_read both.item.read;
      item_runs_out = λ octets places. (λ out. out, λ out. out);
      fields = λ names m octets result.
          let others = other_names names in (
            Returns_field_read_more _ _ a.meaning b.meaning (first_name names) (both.value.read m) (both.value.runs_out m)
                (a.fields.read others) (a.fields.runs_out others) (b.fields.read others) (b.fields.runs_out others) (λ t r. (same others t r).0) octets result,
            Returns_field_read_more _ _ b.meaning a.meaning (first_name names) (both.value.read m) (both.value.runs_out m)
                (b.fields.read others) (b.fields.runs_out others) (a.fields.read others) (a.fields.runs_out others) (λ t r. (same others t r).1) octets result,
          );
    }

pub returns-clause-before : goal.returns-clause-before
returns-clause-before g c same =
    let d = g.A.Asn1Type.der in
    let a = g.B.RowBehind.behind in
    let b = g.B.RowBehindReadable.behind in
    record {
      stands_for = same.stands_for;
      item = same.item;
      item_runs_out = same.item_runs_out;
      fields = λ names m octets result.
          let others = other_names names in
          let n = same.stands_for m in (
            Returns_field_read_more _ _ a.meaning b.meaning (first_name names) d.read d.runs_out (a.fields.read others m) (a.fields.runs_out others m)
                (b.fields.read others n) (b.fields.runs_out others n) (λ t r. (same.fields others m t r).0) octets result,
            Returns_field_read_more _ _ b.meaning a.meaning (first_name names) d.read d.runs_out (b.fields.read others n) (b.fields.runs_out others n)
                (a.fields.read others m) (a.fields.runs_out others m) (λ t r. (same.fields others m t r).1) octets result,
          );
    }

pub returns-clause-item : goal.returns-clause-item
returns-clause-item g c same names octets result =
    let a = g.B.RowBehind.behind in
    let b = g.B.RowBehindReadable.behind in
    let others = other_names names in (
      Returns_item_read_more _ a.meaning b.meaning (first_name names) a.item.read (λ m. m) same.stands_for a.item.read b.item.read (seen_front_id_read a.item.read) same.item
          a.item.runs_out b.item.runs_out (λ t places. (same.item_runs_out t places).0) (a.fields.read others) (a.fields.runs_out others) (b.fields.read others) (b.fields.runs_out others)
          (λ m t r. (same.fields others m t r).0) octets result,
      Returns_item_read_more _ b.meaning a.meaning (first_name names) a.item.read same.stands_for (λ m. m) b.item.read a.item.read same.item (seen_front_id_read a.item.read)
          b.item.runs_out a.item.runs_out (λ t places. (same.item_runs_out t places).1) (b.fields.read others) (b.fields.runs_out others) (a.fields.read others) (a.fields.runs_out others)
          (λ m t r. (same.fields others m t r).1) octets result,
    )
