use Rattle.std.proofs.Common.{◌≡◌, ℕ, List, subst, sym}
use Rattle.std.specs.Prelude.{OnOk}
use Rattle.asn1_core.specs.Buffer.{Appends}
use Rattle.asn1_core.specs.Integer.{integer_content}
use Rattle.asn1_core.specs.Base256.{signed_number}
use Rattle.asn1_values.specs.Big.{IsSigned}
use Rattle.asn1_values.specs.Lemmas.Big.{IsUnsignedForm_IsUnsigned, appends_signed}
use Rattle.asn1_values.proofs.values.owned.OwnedBigUintSimpleAsn1Writable.write_data.Goals as goal

pub returns-clause-ok : goal.returns-clause-ok
returns-clause-ok c =
    let same = c.as_slice.ensures.value in
    let old = c.args.dest.now.bytes in
    let new = c.push_slice.new.self.bytes in
    let is = subst IsSigned (sym same) (IsUnsignedForm_IsUnsigned c.args.self.now.octets.items c.args.self.now.is_content).0 in
    subst (λ (t : List ℕ). OnOk c.push_slice.result (Appends (λ u. u ≡ integer_content (signed_number t)) old new)) same (appends_signed c.push_slice.result c.as_slice.result.now old new is c.push_slice.ensures.ok)
