use Rattle.std.proofs.Common.{◌≡◌, ◌<◌, ◌≤◌, ◌+◌, ◌-◌, ℕ, List, ◌++◌, length, take, drop, slice_range, sym, ap, ◌∙◌, arith, take_at, length-take-le, take-append-drop, drop-drop}
use Rattle.std.proofs.lemmas.List.{drop-take, length-append, length-drop, take-take}
use Rattle.std.proofs.KnownBytes.{prepend_known-read}
use Rattle.dercheck.proofs.system.InputSource.pull.Goals as goal

-- a part is its front and its rest
slice_range-split : (xs : List ℕ) (a e n : ℕ) → n ≤ e - a → slice_range xs a e ≡ slice_range xs a (a + n) ++ slice_range xs (a + n) e
slice_range-split xs a e n within =
    let part = drop a xs in
    let m = e - (a + n) in
    let count : n + m ≡ e - a = omega arith in
    let one : (a + n) - a ≡ n = omega arith in
    ap (λ k. take k part) (sym count)
    ∙ sym (take-append-drop n (take (n + m) part))
    ∙ ap (λ l. l ++ drop n (take (n + m) part)) (take-take n (n + m) part (omega arith) ∙ ap (λ k. take k part) (sym one))
    ∙ ap (λ l. take ((a + n) - a) part ++ l) (drop-take n m part ∙ ap (take m) (drop-drop n a xs))

pub returns-clause-octets : goal.returns-clause-octets
returns-clause-octets g c =
    let filled = c.fill.new.self in
    let n = c.min-n.result in
    let given = c.copy_from_slice.new.self in
    let buf = c.args.buf.now in
    let count : length given ≡ n = c.copy_from_slice.ensures.len ∙ length-take-le n buf (omega (arith, c.min-n.ensures)) in
    let split = slice_range-split filled.octets filled.start filled.end n (omega (arith, c.min-n.ensures))
    ∙ ap (λ l. l ++ slice_range filled.octets (filled.start + n) filled.end) (sym c.copy_from_slice.ensures.after ∙ sym (take_at given (drop n buf) n count)) in
    let read = prepend_known-read _ _ _ _ _ _ c.fill.ensures.left split (λ (p : (n ≡ 0) × (0 < length (given ++ drop n buf))).
    let empty : filled.start ≡ filled.end = omega (arith, p.0, p.1, count, c.min-n.ensures, filled.ordered, length-append given (drop n buf), length-drop n buf) in
    (ap (λ k. take k (drop (filled.start + n) filled.octets)) {y = 0} (omega (arith, empty)), c.fill.ensures.end c.if-not-fill.false empty)) in
    (read.0, λ zero some. read.1 (zero, some))
