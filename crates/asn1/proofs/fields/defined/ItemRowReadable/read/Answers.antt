use Rattle.std.proofs.Common.{sym, ◌∙◌}
use Rattle.asn1_core.specs.Der.{encoding_of}
use Rattle.asn1.proofs.FieldSteps.{Returns_err, behind_item}
use Rattle.asn1.proofs.fields.defined.ItemRowReadable.read.Goals as goal

pub returns-in_err-rest : goal.returns-in_err-rest
returns-in_err-rest g c =
    let behind = g.B.RowBehindReadable.behind in
    Returns_err _ _ _ _ _ c.from_residual-in_err-rest.ensures.1
    (behind_item (g.S.NameSource.texts c.args.names) (encoding_of behind.item) (λ v. (behind.item.meaning v, c.read_item.new.parser)) _ c.read_item.result behind.fields _ _ c.read_item.ensures (sym (rw c.first.ensures at c.placed.ensures) ∙ c.in_ok-item.was) (rw c.in_err-rest.was at rw c.others.ensures at c.read.ensures))
