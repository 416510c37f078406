use Rattle.std.proofs.Common.{sym, ◌∙◌}
use Rattle.asn1_core.specs.Der.{encoding_of}
use Rattle.asn1.proofs.FieldSteps.{Returns_err, IsErrorOf_between}
use Rattle.asn1.proofs.fields.defined.BeforeRowBehindReadable.read.Goals as goal

pub returns-in_err-rest : goal.returns-in_err-rest
returns-in_err-rest g c =
    let d = g.A.Asn1Type.der in
    Returns_err _ _ _ _ _ c.from_residual-in_err-rest.ensures.1
    (IsErrorOf_between (g.S.NameSource.texts c.args.names) (encoding_of d) (λ v. (d.meaning v, c.read_element.new.self)) _ _ c.read_element.result g.B.RowBehindReadable.behind.fields _ _ c.read_element.ensures.answers (sym (rw c.first.ensures at c.placed.ensures) ∙ c.in_ok-value.was) (rw c.in_err-rest.was at rw c.others.ensures at c.read.ensures))
