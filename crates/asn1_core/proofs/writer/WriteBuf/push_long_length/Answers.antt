use Rattle.std.proofs.Common.{◌≡◌, ◌++◌, ℕ, List, ◌∙◌, subst}
use Rattle.std.specs.Prelude.{OnOk}
use Rattle.asn1_core.proofs.writer.WriteBuf.push_long_length.Goals as goal

pub returns-clause-ok : goal.returns-clause-ok
returns-clause-ok c =
    subst (λ (t : List ℕ). OnOk c.push_slice.result (c.push_slice.new.self.bytes ≡ c.args.self.now.bytes ++ t)) (c.octets.ensures ∙ c.new.ensures.encoding) c.push_slice.ensures.ok
