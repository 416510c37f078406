use Rattle.std.proofs.Common.{rules}
use Rattle.asn1_tests.proofs.callers.same_octets_mean_the_same.Goals as goal

pub returns : goal.returns
returns g c same =
    let d = g.T.Asn1Type.der in
    d.laws.one_value (search rules) (d.meaning c.args.a.now) (d.meaning c.args.b.now) (search rules) (search rules) (search rules) (search rules)
