use Rattle.std.proofs.Common.{◌<◌, ◌≤◌, ◌+◌, ◌-◌, ◌*◌, List, ℕ, [], ◌++◌, length, take, drop, refl, subst, append_assoc, arith}
use Rattle.std.proofs.lemmas.List.{length-drop, length-take}
use Rattle.asn1.specs.Base256.{IsOctets}
use Rattle.asn1.specs.Lemmas.Texts.{IsOctets_from_reads}
use Rattle.dercheck.specs.declared.pending.Progress.{Progress}
use Rattle.dercheck.specs.declared.pending.Progress.TheVariants.{GoesOn, Completes, Fails}
use Rattle.dercheck.specs.Frames.{line_octets, Advances, Taken, TakenToFault}
use Rattle.dercheck.proofs.Parts.{append_take_append}
use Rattle.dercheck.proofs.Steps.{Taken_nil, goes_on, Taken_Completes, Taken_Fails, append_take_drop_rest, IsOctets_drop_rest}
use Rattle.dercheck.proofs.pending.Pending.take_octets.Goals as goal

-- the lines of the remaining octets still fit
room : (rest : List ℕ) (count count' n : ℕ) → 0 < n → n ≤ length rest → count' ≤ count + 62 → count + 62 * length rest ≤ 62 * 512
    → count' + 62 * length (take (length rest - n) (drop n rest)) ≤ 62 * 512
room rest count count' n some within more fits = omega (arith, length-take (length rest - n) (drop n rest), length-drop n rest)

pub loop-rest-init : goal.loop-rest-init
loop-rest-init c = (
  [],
  refl,
  λ octets stands. Taken_nil c.args.self.now octets (line_octets c.args.lines.now) stands,
  omega arith,
)

pub loop-rest-preserved-in-GoesOn : goal.loop-rest-preserved-in-GoesOn
loop-rest-preserved-in-GoesOn c =
    let (done, split, taken, fits) = c.loop-rest.invariant in
    let rest = c.loop-rest.rest.now in
    let n = c.advance-count.result.0 in
    let old = c.loop-rest.self in
    let new = c.advance-count.new.self in
    let before = line_octets c.args.lines.now in
    let made = line_octets c.loop-rest.lines in
    let step : Advances old new GoesOn (take n rest) = subst (λ (p : Progress). Advances old new p (take n rest)) c.in-GoesOn.is c.advance-count.ensures.advances in (
      done ++ take n rest,
      append_take_append c.args.octets.now done rest n split,
      λ octets stands. subst (λ (l : List ℕ). Taken new l before made) (append_assoc octets done (take n rest)) (goes_on old new (octets ++ done) (take n rest) before made (taken octets stands) step),
      room rest c.loop-rest.lines.count c.loop-rest.lines.count n c.advance-count.ensures.some c.advance-count.ensures.within (omega arith) fits,
    )

pub loop-rest-preserved : goal.loop-rest-preserved
loop-rest-preserved c =
    let (done, split, taken, fits) = c.loop-rest.invariant in
    let rest = c.loop-rest.rest.now in
    let n = c.advance-count.result.0 in
    let old = c.loop-rest.self in
    let new = c.advance-count.new.self in
    let fresh = c.new.result in
    let before = line_octets c.args.lines.now in
    let made = line_octets c.loop-rest.lines in
    let made' = line_octets c.push_element.new.self in
    let step : Advances old new Completes (take n rest) = subst (λ (p : Progress). Advances old new p (take n rest)) c.in-Completes.is c.advance-count.ensures.advances in (
      done ++ take n rest,
      append_take_append c.args.octets.now done rest n split,
      λ octets stands. subst (λ (l : List ℕ). Taken fresh l before made') (append_assoc octets done (take n rest))
          (Taken_Completes old new fresh (octets ++ done) (take n rest) before made made' (taken octets stands) step c.new.ensures c.push_element.ensures.octets),
      room rest c.loop-rest.lines.count c.push_element.new.self.count n c.advance-count.ensures.some c.advance-count.ensures.within c.push_element.ensures.count fits,
    )

pub returns-in-Fails-clause-fault : goal.returns-in-Fails-clause-fault
returns-in-Fails-clause-fault c =
    let (done, split, taken, fits) = c.loop-rest.invariant in
    let rest = c.loop-rest.rest.now in
    let n = c.advance-count.result.0 in
    let old = c.loop-rest.self in
    let new = c.advance-count.new.self in
    let kind = c.in-Fails.kind in
    let before = line_octets c.args.lines.now in
    let made = line_octets c.loop-rest.lines in
    let made' = line_octets c.push_fault.new.self in
    let octets = c.args.octets.now in
    let is : IsOctets (drop n rest) = IsOctets_drop_rest octets done rest n split (IsOctets_from_reads octets (λ i. omega (arith, c.type_inv.octets i))) in
    let step : Advances old new (Fails kind) (take n rest) = subst (λ (p : Progress). Advances old new p (take n rest)) c.in-Fails.is c.advance-count.ensures.advances in
    λ _ text stands. subst (λ (l : List ℕ). TakenToFault l before made') (append_take_drop_rest text octets done rest n split)
    (Taken_Fails old new (text ++ done) (take n rest) (drop n rest) before made made' kind (taken text stands) step is c.push_fault.ensures)
