use Rattle.std.proofs.Common.{sym, ◌∙◌}
use Rattle.asn1_core.specs.DefinedBy.{defined_encoding}
use Rattle.asn1.proofs.FieldSteps.{Returns_err, behind_value}
use Rattle.asn1.proofs.fields.defined.ValueRowBehindReadable.read.Goals as goal

pub returns-in_err-rest : goal.returns-in_err-rest
returns-in_err-rest g c =
    let both = g.C.DefinedField.both in
    Returns_err _ _ _ _ _ c.from_residual-in_err-rest.ensures.1
    (behind_value (g.S.NameSource.texts c.args.names) (defined_encoding both.value) (λ v. (both.value.meaning v, c.read_value.new.parser)) _ _ c.read_value.result g.R.RowReadable.list.fields _ _ c.read_value.ensures (sym (rw c.first.ensures at c.placed.ensures) ∙ c.in_ok-value.was) (rw c.in_err-rest.was at rw c.others.ensures at c.read.ensures))
