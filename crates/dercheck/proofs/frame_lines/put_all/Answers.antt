use Rattle.std.proofs.Common.{◌++◌, length, take, refl, sym, ◌∙◌}
use Rattle.std.proofs.lemmas.List.{take_at}
use Rattle.std.proofs.KnownBytes.{Appends-trans, Appends-kept}
use Rattle.dercheck.proofs.Parts.{append_take_append}
use Rattle.dercheck.proofs.frame_lines.put_all.Goals as goal

pub loop-rest-preserved : goal.loop-rest-preserved
loop-rest-preserved g c =
    let (done, split, appended, flag) = c.loop-rest.invariant in
    let rest = c.loop-rest.rest.now in
    let n = c.in-Some.n in
    (done ++ take n rest, append_take_append _ done rest n split, Appends-trans _ _ _ _ _ appended c.in-Some.ensures.octets, c.in-Some.ensures.flag ∙ flag)

pub returns-in-None : goal.returns-in-None
returns-in-None g c =
    let (done, split, appended, flag) = c.loop-rest.invariant in
    ((length done, rw (sym split) (rw (take_at done c.loop-rest.rest.now (length done) refl) (Appends-kept _ _ _ _ appended c.in-None.ensures.octets))), c.in-None.ensures.flag)
