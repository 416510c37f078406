use Rattle.std.proofs.Common.{◌≡◌, ◌-◌, ℕ, List, length, take, drop, replicate, arith, rules, ◌∙◌, sym, ap}
use Rattle.std.specs.Prelude.{decimal, ◌++◌}
use Rattle.std.proofs.lemmas.Fmt.{length-decimal-le}
use Rattle.std.proofs.lemmas.List.{take-replicate, take-append-drop}
use Rattle.asn1_values.proofs.FractionDigits.{append_drop_9}
use Rattle.asn1_values.proofs.values.time_fractions.nine_digits.Goals as goal

pub write_digits-requires : goal.write_digits-requires
write_digits-requires c = search (rules, length-decimal-le 9)

pub returns : goal.returns
returns c =
    let w = c.write_digits in
    let n = c.args.nanoseconds in
    let from = c.from.ensures in
    let begin = w.ensures.start in
    let start : w.result ≡ 9 - length (decimal c.from.result) = omega (arith, begin) in
    let zeros : take w.result w.new.buf ≡ replicate w.result 48 = w.ensures.before ∙ take-replicate w.result 9 48 (omega (arith, begin)) in
    let digits : drop w.result w.new.buf ≡ decimal c.from.result = w.ensures.written ∙ append_drop_9 (decimal c.from.result) in
    sym (take-append-drop w.result w.new.buf)
    ∙ ap (λ (l : List ℕ). l ++ drop w.result w.new.buf) zeros
    ∙ ap (λ (l : List ℕ). replicate w.result 48 ++ l) digits
    ∙ ap (λ (k : ℕ). replicate k 48 ++ decimal c.from.result) start
    ∙ ap (λ (k : ℕ). replicate (9 - length (decimal k)) 48 ++ decimal k) from
