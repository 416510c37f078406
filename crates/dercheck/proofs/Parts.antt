-- Octets appended one after another, the last of them in part; and octets taken from the start.
use Rattle.std.proofs.Common.{◌≡◌, ℕ, ◌+◌, ◌-◌, ◌≤◌, min, Option, List, ◌++◌, length, take, drop, sym, ap, subst, ◌∙◌, append_assoc, take-append-drop, arith}
use Rattle.std.proofs.Math.Seq.{take-append-add}
use Rattle.std.proofs.lemmas.List.{take-append-le, take_min, take_rest}
use Rattle.std.specs.Io.KnownBytes.{Appends}
use Rattle.std.proofs.KnownBytes.{Appends-trans}
use Rattle.dercheck.specs.Streams.{AppendsInPart}

-- a prefix of octets is a prefix of more octets
pub AppendsInPart_append : (a b : Option (List ℕ)) (xs ys : List ℕ) → AppendsInPart a b xs → AppendsInPart a b (xs ++ ys)
AppendsInPart_append a b xs ys (n, is) =
    let few : min n (length xs) ≤ length xs = omega arith in
    (min n (length xs), subst (Appends a b) (sym (take-append-le (min n (length xs)) xs ys few ∙ take_min n xs)) is)

pub AppendsInPart_after_Appends : (a b c : Option (List ℕ)) (xs ys : List ℕ) → Appends a b xs → AppendsInPart b c ys → AppendsInPart a c (xs ++ ys)
AppendsInPart_after_Appends a b c xs ys front (n, is) =
    (length xs + n, subst (Appends a c) (sym (take-append-add xs ys n)) (Appends-trans a b c xs (take n ys) front is))

-- a prefix moves from what is left to what is done
pub append_take_append : (all done rest : List ℕ) (n : ℕ) → done ++ rest ≡ all → (done ++ take n rest) ++ take (length rest - n) (drop n rest) ≡ all
append_take_append all done rest n e =
    ap (λ l. (done ++ take n rest) ++ l) (take_rest rest n) ∙ append_assoc done (take n rest) (drop n rest) ∙ ap (λ l. done ++ l) (take-append-drop n rest) ∙ e
