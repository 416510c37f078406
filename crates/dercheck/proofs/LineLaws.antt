-- An input has its lines, and no others.
use Rattle.std.proofs.Common.{◌≡◌, ◌≢◌, ℕ, List, [], ◌∷◌, ◌++◌, length, refl, sym, ap, subst, ◌∙◌, inl, inr, ⊎_elim, append_assoc, arith}
use Rattle.std.specs.List.{AllByRecursion}
use Rattle.std.proofs.lemmas.Bool.{cases_eq}
use Rattle.std.proofs.lemmas.List.{append-nil, length-append}
use Rattle.dercheck.specs.Lines.{lines_of, in_first_line, HasNone, ended, LacksLast, AreLines}
use Rattle.dercheck.specs.Laws.{LinesAreRight}
use Rattle.dercheck.proofs.Cuts.{lines_of_feed, lines_of_more, lines_of_none, lines_of_line, lines_of_last}

abbrev Lines : Type 0
Lines = List (List ℕ)

-- ---- the lines are lines

AreLines_feed : (octets : List ℕ) (lines : Lines) → AreLines octets lines → AreLines (10 ∷ octets) ([] ∷ lines)
AreLines_feed octets lines are = record {
  apart = (tt, are.apart);
  whole = ⊎_elim
      (λ (e : octets ≡ ended lines). inl (ap (λ (xs : List ℕ). 10 ∷ xs) e))
      (λ (l : LacksLast octets lines). inr (record {
        front = [] ∷ l.front;
        last = l.last;
        are = ap (λ (ls : Lines). [] ∷ ls) l.are;
        some = l.some;
        is = ap (λ (xs : List ℕ). 10 ∷ xs) l.is;
      }))
      are.whole;
}

nil_ne_push : (front : Lines) (last : List ℕ) → [] ≡ front ++ last ∷ [] → ⊥
nil_ne_push front last e = omega (arith, ap length e, length-append front (last ∷ []))

lacks_more : (octet : ℕ) (octets line : List ℕ) (lines front : Lines) (last : List ℕ) → line ∷ lines ≡ front ++ last ∷ [] → last ≢ [] →
    octets ≡ ended front ++ last → LacksLast (octet ∷ octets) ((octet ∷ line) ∷ lines)
lacks_more octet octets line lines [] last are some is = record {
  front = [];
  last = octet ∷ last;
  are = cc;
  some = λ e. cc e;
  is = ap (λ (xs : List ℕ). octet ∷ xs) is;
}
lacks_more octet octets line lines (first ∷ front) last are some is = record {
  front = (octet ∷ first) ∷ front;
  last = last;
  are = cc;
  some = some;
  is = ap (λ (xs : List ℕ). octet ∷ xs) is;
}

AreLines_octet : (octet : ℕ) (octets : List ℕ) (lines : Lines) → octet ≢ 10 → AreLines octets lines → AreLines (octet ∷ octets) (in_first_line octet lines)
AreLines_octet octet octets [] other are = record {
  apart = ((other, tt), tt);
  whole = ⊎_elim
      (λ (e : octets ≡ ended []). inr (record { front = []; last = octet ∷ []; are = refl; some = λ no. cc no; is = ap (λ (xs : List ℕ). octet ∷ xs) e }))
      (λ (l : LacksLast octets []). absurd (nil_ne_push l.front l.last l.are))
      are.whole;
}
AreLines_octet octet octets (line ∷ lines) other are = record {
  apart = ((other, are.apart.0), are.apart.1);
  whole = ⊎_elim
      (λ (e : octets ≡ ended (line ∷ lines)). inl (ap (λ (xs : List ℕ). octet ∷ xs) e))
      (λ (l : LacksLast octets (line ∷ lines)). inr (lacks_more octet octets line lines l.front l.last l.are l.some l.is))
      are.whole;
}

AreLines_lines_of : (octets : List ℕ) → AreLines octets (lines_of octets)
AreLines_lines_of [] = rw lines_of_none (record { apart = tt; whole = inl refl })
AreLines_lines_of (octet ∷ octets) = ⊎_elim
    (λ (here : octet ≡ 10). rw (here, lines_of_feed octets) (AreLines_feed octets (lines_of octets) (AreLines_lines_of octets)))
    (λ (later : octet ≢ 10). rw (lines_of_more octet octets later) (AreLines_octet octet octets (lines_of octets) later (AreLines_lines_of octets)))
    (cases_eq octet 10)

-- ---- and no others

ended_cons : (line : List ℕ) (lines : Lines) (rest : List ℕ) → ended (line ∷ lines) ++ rest ≡ line ++ 10 ∷ (ended lines ++ rest)
ended_cons line lines rest =
    append_assoc (line ++ 10 ∷ []) (ended lines) rest ∙ append_assoc line (10 ∷ []) (ended lines ++ rest)

lines_of_ended : (lines : Lines) (rest : List ℕ) → AllByRecursion (HasNone 10) lines → lines_of (ended lines ++ rest) ≡ lines ++ lines_of rest
lines_of_ended [] rest apart = refl
lines_of_ended (line ∷ lines) rest apart =
    ap lines_of (ended_cons line lines rest) ∙ lines_of_line line (ended lines ++ rest) apart.0
    ∙ ap (λ (ls : Lines). line ∷ ls) (lines_of_ended lines rest apart.1)

apart_parts : (front : Lines) (last : List ℕ) → AllByRecursion (HasNone 10) (front ++ last ∷ []) → AllByRecursion (HasNone 10) front × HasNone 10 last
apart_parts [] last all = (tt, all.0)
apart_parts (line ∷ front) last all = let rest = apart_parts front last all.1 in ((all.0, rest.0), rest.1)

lines_of_one_line : (line : List ℕ) → line ≢ [] → HasNone 10 line → lines_of line ≡ line ∷ []
lines_of_one_line [] some none = absurd (some refl)
lines_of_one_line (octet ∷ line) some none = lines_of_last octet line none

lines_of_AreLines : (octets : List ℕ) (lines : Lines) → AreLines octets lines → lines_of octets ≡ lines
lines_of_AreLines octets lines are = ⊎_elim
    (λ (e : octets ≡ ended lines).
    ap lines_of (e ∙ sym (append-nil (ended lines))) ∙ lines_of_ended lines [] are.apart
    ∙ ap (λ (ls : Lines). lines ++ ls) lines_of_none ∙ append-nil lines)
    (λ (l : LacksLast octets lines).
    let parts = apart_parts l.front l.last (subst (AllByRecursion (HasNone 10)) l.are are.apart) in
    ap lines_of l.is ∙ lines_of_ended l.front l.last parts.0
    ∙ ap (λ (ls : Lines). l.front ++ ls) (lines_of_one_line l.last l.some parts.1) ∙ sym l.are)
    are.whole

pub lines_are_right : LinesAreRight
lines_are_right octets lines = (lines_of_AreLines octets lines, λ e. subst (AreLines octets) e (AreLines_lines_of octets))
