use Rattle.std.proofs.Common.{◌≡◌, ◌++◌, [], ◌∷◌, ℕ, List, ap, ◌∙◌, append_assoc, arith}
use Rattle.asn1_core.specs.Buffer.{KeepsPrefix}
use Rattle.asn1_core.specs.Tag.{identifier_octets}
use Rattle.asn1_core.specs.Length.{length_octets}
use Rattle.std.proofs.lemmas.Grind.{common_steps}
use Rattle.asn1_core.proofs.Bodies.{call_at, KeepsPrefix_trans, KeepsPrefix_append, OnErr_any, FailsAs_call_err, FailsAs_result_err, announced_ok, announced_err, patched_ok}
use Rattle.asn1_core.proofs.writer.Writer.write_tlv_or_part.Goals as goal

-- the identifier octets, and the octet that is kept for the length
kept : (old b1 b2 tag : List ℕ) → b1 ≡ old ++ tag → b2 ≡ b1 ++ 0 ∷ [] → b2 ≡ old ++ (tag ++ 0 ∷ [])
kept old b1 b2 tag e f = f ∙ ap (λ xs. xs ++ 0 ∷ []) e ∙ append_assoc old tag (0 ∷ [])

pub returns-in_err-body-in-None-clause-err : goal.returns-in_err-body-in-None-clause-err
returns-in_err-body-in-None-clause-err g c =
    let k = c.requires.front _ _ _ (call_at g.F.FnOnce c.args.body _ _ _ c.body-in-None.ensures) in
    OnErr_any _ (KeepsPrefix_trans (KeepsPrefix_append (identifier_octets c.args.tag ++ 0 ∷ []) (kept c.args.self.now.buf.now.bytes c.write_to.new.dest.bytes c.push_byte.new.self.bytes (identifier_octets c.args.tag) c.in_ok-write_to.ensures.ok c.in_ok-push_byte-in-None.ensures.ok)) k)

pub returns-in_err-body-in-None-clause-error : goal.returns-in_err-body-in-None-clause-error
returns-in_err-body-in-None-clause-error g c =
    FailsAs_result_err g.F.FnOnce c.args.body g.E.From.from_gives _ _ _ _ _ c.in_err-body-in-None.was (call_at g.F.FnOnce c.args.body _ _ _ c.body-in-None.ensures) c.from_residual-in_err-body-in-None.ensures.1

pub patch_length-requires-clause-within : goal.patch_length-requires-clause-within
patch_length-requires-clause-within g c =
    let k = c.requires.front _ _ _ (call_at g.F.FnOnce c.args.body _ _ _ c.body-in-None.ensures) in
    let e = k.joined in
    grind (arith, common_steps)

pub returns-in_err-patch_length-in-None-clause-err :
    goal.returns-in_err-patch_length-in-None-clause-err
returns-in_err-patch_length-in-None-clause-err g c =
    let k = c.requires.front _ _ _ (call_at g.F.FnOnce c.args.body _ _ _ c.body-in-None.ensures) in
    let e : c.patch_length.new.self.bytes ≡ c.body-in-None.new.arg2.bytes = c.in_err-patch_length-in-None.ensures.err in
    let two : KeepsPrefix c.args.self.now.buf.now.bytes c.push_byte.new.self.bytes = KeepsPrefix_append (identifier_octets c.args.tag ++ 0 ∷ []) (kept c.args.self.now.buf.now.bytes c.write_to.new.dest.bytes c.push_byte.new.self.bytes (identifier_octets c.args.tag) c.in_ok-write_to.ensures.ok c.in_ok-push_byte-in-None.ensures.ok) in
    let all : KeepsPrefix c.args.self.now.buf.now.bytes c.patch_length.new.self.bytes = rw e (KeepsPrefix_trans two k) in
    OnErr_any _ all

pub returns-in_ok-push_length-in-Some-clause-ok : goal.returns-in_ok-push_length-in-Some-clause-ok
returns-in_ok-push_length-in-Some-clause-ok g c =
    let two : c.push_length.new.self.bytes ≡ c.write_to.new.dest.bytes ++ length_octets c.in-Some.len = c.in_ok-push_length-in-Some.ensures.ok in
    announced_ok g.F.FnOnce c.args.body c.args.self.now.buf.now.bytes _ c.push_length.new.self _ c.args.tag c.in-Some.len c.requires.front (rw c.in-Some.is at c.requires.announced) c.in_ok-write_to.ensures.ok two _ (call_at g.F.FnOnce c.args.body _ _ _ c.body.ensures)

pub returns-in_ok-push_length-in-Some-clause-err : goal.returns-in_ok-push_length-in-Some-clause-err
returns-in_ok-push_length-in-Some-clause-err g c =
    let two : c.push_length.new.self.bytes ≡ c.write_to.new.dest.bytes ++ length_octets c.in-Some.len = c.in_ok-push_length-in-Some.ensures.ok in
    announced_err g.F.FnOnce c.args.body c.args.self.now.buf.now.bytes _ c.push_length.new.self _ c.args.tag c.in-Some.len c.requires.front (rw c.in-Some.is at c.requires.announced) c.in_ok-write_to.ensures.ok two _ (call_at g.F.FnOnce c.args.body _ _ _ c.body.ensures)

pub returns-in_ok-push_length-in-Some-clause-error :
    goal.returns-in_ok-push_length-in-Some-clause-error
returns-in_ok-push_length-in-Some-clause-error g c = FailsAs_call_err g.F.FnOnce c.args.body g.E.From.from_gives _ _ _ (call_at g.F.FnOnce c.args.body _ _ _ c.body.ensures)

pub returns-in_ok-patch_length-in-None-clause-ok :
    goal.returns-in_ok-patch_length-in-None-clause-ok
returns-in_ok-patch_length-in-None-clause-ok g c =
    patched_ok g.F.FnOnce c.args.body c.args.self.now.buf.now.bytes _ c.push_byte.new.self _ _ c.args.tag _ _ c.requires.front c.in_ok-write_to.ensures.ok c.in_ok-push_byte-in-None.ensures.ok c.len-start.ensures c.in_ok-body-in-None.was (call_at g.F.FnOnce c.args.body _ _ _ c.body-in-None.ensures) c.in_ok-patch_length-in-None.ensures.ok
