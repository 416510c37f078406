use Rattle.std.proofs.Common.{◌≡◌, ◌++◌, List, ℕ, subst, arith}
use Rattle.std.specs.Prelude.{OnOk}
use Rattle.std.specs.Int.{w128}
use Rattle.asn1_core.specs.Integer.{integer_content}
use Rattle.asn1_core.proofs.Integers.{EndsWithContent_sixteen_octets, take_EndsWithContent, length_passed}
use Rattle.asn1_core.proofs.types.integers.write_wide.Goals as goal

pub overflow_sub-start : goal.overflow_sub-start
overflow_sub-start c =
    let octets = c.to_be_bytes-octets.result in
    let size = length_passed w128 c.args.number c.wide_length-start.result c.ranges.number c.wide_length-start.ensures in
    let is = EndsWithContent_sixteen_octets octets c.args.number c.ranges.number c.to_be_bytes-octets.ensures in
    omega (arith, size, is.0, is.1.fewer)

pub returns-clause-ok : goal.returns-clause-ok
returns-clause-ok c =
    let octets = c.to_be_bytes-octets.result in
    let size = length_passed w128 c.args.number c.wide_length-start.result c.ranges.number c.wide_length-start.ensures in
    let is = EndsWithContent_sixteen_octets octets c.args.number c.ranges.number c.to_be_bytes-octets.ensures in
    let part = take_EndsWithContent octets (integer_content c.args.number) c.wide_length-start.result _ _ is.1 size (omega (arith, is.0)) (omega (arith, is.0)) in
    subst (λ (t : List ℕ). OnOk c.push_slice.result (c.push_slice.new.self.bytes ≡ c.args.dest.now.bytes ++ t)) part c.push_slice.ensures.ok
