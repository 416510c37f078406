use Rattle.asn1_core.specs.Lemmas.Wholes.{IfErr_Returns}
use Rattle.asn1_core.proofs.parser.Parser.read_element.Goals as goal

pub returns-clause-no_memory_error : goal.returns-clause-no_memory_error
returns-clause-no_memory_error g c none =
    let d = g.T.Asn1Type.der in
    let t = c.args.self.now in
    IfErr_Returns _ (d.runs_out t) c.parse.result (d.read t) c.parse.ensures.answers (d.laws.errors t) (λ places out. none (d.laws.memory t places out))
