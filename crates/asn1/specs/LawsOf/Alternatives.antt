-- The laws of several alternatives and those after them, from those of the same alternatives one by one.
use Rattle.std.specs.Prelude.{ℕ, ◌≡◌, ◌⊎◌, List, Ok, Bool, true}
use Rattle.std.proofs.Common.{inl, inr, refl, sym, ap, subst, ◌∙◌}
use Rattle.asn1_core.specs.declared.tag.Tag.{Tag}
use Rattle.asn1_core.specs.Element.{Element, element_encoding}
use Rattle.asn1_core.specs.Encoding.{Encoding}
use Rattle.asn1_core.specs.EncodingLaws.{EncodingLaws}
use Rattle.asn1_core.specs.Reading.{IsOneElement, IsNothingOrElement}
use Rattle.asn1_core.specs.Lemmas.Results.{done_injective, bind_ok}
use Rattle.asn1_core.specs.Lemmas.Faults.{bind_errors}
use Rattle.asn1.specs.Among.{Among3, Among8, first_of_3, second_of_3, third_of_3, after_3, first_of_8, second_of_8, third_of_8, fourth_of_8, fifth_of_8, sixth_of_8, seventh_of_8, eighth_of_8, after_8, among_three, among_eight, sum_of_three, sum_of_eight}
use Rattle.asn1.specs.Choices.{Alternatives, AlternativesLaws, IsApart, OneApart, ThreeApart, EightApart, or, or_three, or_eight, viewed_alternatives}
use Rattle.asn1.specs.LawsOf.Choices.{or_laws}

-- What the laws say of one value, beside how it is read.
record LawsAt (plain lawful bounded : Type 0) (accepts : Tag → Bool) (encoding : List ℕ) (encodings : List ℕ → Type 0) (closures valid allowed : Type 0) : Type 0 where
  one_encoding : plain → (t : List ℕ) → encodings t → t ≡ encoding
  has_encoding : plain → valid → encodings encoding
  at_most_one : (t : List ℕ) → encodings t → IsNothingOrElement t
  no_closures : plain → closures
  nothing_or_element : lawful → valid → IsOneElement encoding
  accepted : (e : Element) → valid → encoding ≡ element_encoding e → accepts e.tag ≡ true
  unbounded : (bounded → ⊥) → valid → allowed

abbrev At : {M : Type 0} → Alternatives M → M → Type 0
At c m = LawsAt c.plain c.lawful c.bounded c.accepts (c.encoding m) (c.encodings m) (c.closures m) (c.valid m) (c.allowed m)

laws_at : {M : Type 0} {c : Alternatives M} → AlternativesLaws c → (m : M) → At c m
laws_at l m = record {
  one_encoding = λ p. l.one_encoding p m;
  has_encoding = λ p. l.has_encoding p m;
  at_most_one = l.at_most_one m;
  no_closures = λ p. l.no_closures p m;
  nothing_or_element = l.nothing_or_element m;
  accepted = l.accepted m;
  unbounded = λ free. l.unbounded free m;
}

-- What is read as an element, and the other way round.
abbrev IsRead : {M : Type 0} → Alternatives M → M → Element → Type 0
IsRead c m e = (c.encoding m ≡ element_encoding e) × (c.valid m × c.allowed m)

-- A valid value is one of the same alternatives, with the same encoding.
abbrev IsSeenAs : {M N : Type 0} → Alternatives M → Alternatives N → M → N → Type 0
IsSeenAs c seen m n = (seen.valid n → c.valid m) × (seen.encoding n ≡ c.encoding m)

module _ {M N : Type 0} (view : M → N) (back : N → M) (c : Alternatives M) (l : AlternativesLaws c)
    (encoding : N → List ℕ) (encodings : N → List ℕ → Type 0) (closures valid allowed : N → Type 0) (each_apart : Type 0) where
  abbrev Viewed : Alternatives N
  Viewed = viewed_alternatives view c encoding encodings closures valid allowed each_apart

  viewed_laws : ((n : N) → view (back n) ≡ n) → ((n : N) → At c (back n) → At Viewed n) → ((n : N) → IsSeenAs c Viewed (back n) n)
      → ((m : M) (e : Element) → IsRead c m e → IsRead Viewed (view m) e) → ((n : N) (e : Element) → IsRead Viewed n e → IsRead c (back n) e)
      → (each_apart → c.each_apart) → AlternativesLaws Viewed
  viewed_laws same at seen forth read one_by_one = record {
    one_encoding = λ p n. (at n (laws_at l (back n))).one_encoding p;
    has_encoding = λ p n. (at n (laws_at l (back n))).has_encoding p;
    at_most_one = λ n. (at n (laws_at l (back n))).at_most_one;
    no_closures = λ p n. (at n (laws_at l (back n))).no_closures p;
    consumes = λ e n is h.
        let got = bind_ok (c.read e) (λ m. Ok (view m)) n h in
        let eq = done_injective _ _ got.2 in
        let is_m = l.consumes e got.0 is got.1 in
        let is_n = forth got.0 e (sym is_m.0, is_m.1) in
        subst (λ x. (element_encoding e ≡ encoding x) × (valid x × allowed x)) eq (sym is_n.0, is_n.1);
    disjoint = l.disjoint;
    lawful_if_apart = λ each. l.lawful_if_apart (one_by_one each);
    nothing_or_element = λ n. (at n (laws_at l (back n))).nothing_or_element;
    accepted = λ n. (at n (laws_at l (back n))).accepted;
    read_back = λ n e lawful v a readable is.
        let is_m = read n e (is, (v, a)) in
        rw (l.read_back (back n) e lawful is_m.1.0 is_m.1.1 readable is_m.0) (ap Ok (same n));
    one_value = λ is m n lawful v w alike.
        let a = seen m in
        let b = seen n in
        let backs = l.one_value is (back m) (back n) lawful (a.0 v) (b.0 w) (sym a.1 ∙ (alike ∙ b.1)) in
        sym (same m) ∙ (ap view backs ∙ same n);
    unbounded = λ free n. (at n (laws_at l (back n))).unbounded free;
    memory = l.memory;
    errors = λ e. bind_errors (c.read e) (λ m. Ok (view m)) (l.errors e) (λ m. tt);
  }

one : {A N : Type 0} {d : Encoding A} {others : Alternatives N} → IsApart d others → others.each_apart → OneApart d others
one first rest = record { first = first; rest = rest }

module _ {A B C R : Type 0} (a : Encoding A) (b : Encoding B) (c : Encoding C) (others : Alternatives R) where
  abbrev OneByOne3 : Alternatives (A ⊎ (B ⊎ (C ⊎ R)))
  OneByOne3 = or a (or b (or c others))

  abbrev Together3 : Alternatives (Among3 A B C R)
  Together3 = or_three a b c others

  among_three_sum_of_three : (m : Among3 A B C R) → among_three (sum_of_three m) ≡ m
  among_three_sum_of_three (first_of_3 x) = refl
  among_three_sum_of_three (second_of_3 x) = refl
  among_three_sum_of_three (third_of_3 x) = refl
  among_three_sum_of_three (after_3 x) = refl

  three_at : (m : Among3 A B C R) → At OneByOne3 (sum_of_three m) → At Together3 m
  three_at (first_of_3 x) l = l
  three_at (second_of_3 x) l = l
  three_at (third_of_3 x) l = l
  three_at (after_3 x) l = l

  three_seen : (m : Among3 A B C R) → IsSeenAs OneByOne3 Together3 (sum_of_three m) m
  three_seen (first_of_3 x) = (λ v. v, refl)
  three_seen (second_of_3 x) = (λ v. v, refl)
  three_seen (third_of_3 x) = (λ v. v, refl)
  three_seen (after_3 x) = (λ v. v, refl)

  three_read : (m : Among3 A B C R) (e : Element) → IsRead Together3 m e → IsRead OneByOne3 (sum_of_three m) e
  three_read (first_of_3 x) e is = is
  three_read (second_of_3 x) e is = is
  three_read (third_of_3 x) e is = is
  three_read (after_3 x) e is = is

  read_three : (m : A ⊎ (B ⊎ (C ⊎ R))) (e : Element) → IsRead OneByOne3 m e → IsRead Together3 (among_three m) e
  read_three (inl x) e is = is
  read_three (inr (inl x)) e is = is
  read_three (inr (inr (inl x))) e is = is
  read_three (inr (inr (inr x))) e is = is

  three_apart : ThreeApart a b c others → OneByOne3.each_apart
  three_apart l = one l.first (one l.second (one l.third l.rest))

module _ {A B C D E F G H R : Type 0} (a : Encoding A) (b : Encoding B) (c : Encoding C) (d : Encoding D) (e : Encoding E) (f : Encoding F) (g : Encoding G) (h : Encoding H) (others : Alternatives R) where
  abbrev OneByOne8 : Alternatives (A ⊎ (B ⊎ (C ⊎ (D ⊎ (E ⊎ (F ⊎ (G ⊎ (H ⊎ R))))))))
  OneByOne8 = or a (or b (or c (or d (or e (or f (or g (or h others)))))))

  abbrev Together8 : Alternatives (Among8 A B C D E F G H R)
  Together8 = or_eight a b c d e f g h others

  among_eight_sum_of_eight : (m : Among8 A B C D E F G H R) → among_eight (sum_of_eight m) ≡ m
  among_eight_sum_of_eight (first_of_8 x) = refl
  among_eight_sum_of_eight (second_of_8 x) = refl
  among_eight_sum_of_eight (third_of_8 x) = refl
  among_eight_sum_of_eight (fourth_of_8 x) = refl
  among_eight_sum_of_eight (fifth_of_8 x) = refl
  among_eight_sum_of_eight (sixth_of_8 x) = refl
  among_eight_sum_of_eight (seventh_of_8 x) = refl
  among_eight_sum_of_eight (eighth_of_8 x) = refl
  among_eight_sum_of_eight (after_8 x) = refl

  eight_at : (m : Among8 A B C D E F G H R) → At OneByOne8 (sum_of_eight m) → At Together8 m
  eight_at (first_of_8 x) l = l
  eight_at (second_of_8 x) l = l
  eight_at (third_of_8 x) l = l
  eight_at (fourth_of_8 x) l = l
  eight_at (fifth_of_8 x) l = l
  eight_at (sixth_of_8 x) l = l
  eight_at (seventh_of_8 x) l = l
  eight_at (eighth_of_8 x) l = l
  eight_at (after_8 x) l = l

  eight_seen : (m : Among8 A B C D E F G H R) → IsSeenAs OneByOne8 Together8 (sum_of_eight m) m
  eight_seen (first_of_8 x) = (λ v. v, refl)
  eight_seen (second_of_8 x) = (λ v. v, refl)
  eight_seen (third_of_8 x) = (λ v. v, refl)
  eight_seen (fourth_of_8 x) = (λ v. v, refl)
  eight_seen (fifth_of_8 x) = (λ v. v, refl)
  eight_seen (sixth_of_8 x) = (λ v. v, refl)
  eight_seen (seventh_of_8 x) = (λ v. v, refl)
  eight_seen (eighth_of_8 x) = (λ v. v, refl)
  eight_seen (after_8 x) = (λ v. v, refl)

  eight_read : (m : Among8 A B C D E F G H R) (e : Element) → IsRead Together8 m e → IsRead OneByOne8 (sum_of_eight m) e
  eight_read (first_of_8 x) e is = is
  eight_read (second_of_8 x) e is = is
  eight_read (third_of_8 x) e is = is
  eight_read (fourth_of_8 x) e is = is
  eight_read (fifth_of_8 x) e is = is
  eight_read (sixth_of_8 x) e is = is
  eight_read (seventh_of_8 x) e is = is
  eight_read (eighth_of_8 x) e is = is
  eight_read (after_8 x) e is = is

  read_eight : (m : A ⊎ (B ⊎ (C ⊎ (D ⊎ (E ⊎ (F ⊎ (G ⊎ (H ⊎ R)))))))) (e : Element) → IsRead OneByOne8 m e → IsRead Together8 (among_eight m) e
  read_eight (inl x) e is = is
  read_eight (inr (inl x)) e is = is
  read_eight (inr (inr (inl x))) e is = is
  read_eight (inr (inr (inr (inl x)))) e is = is
  read_eight (inr (inr (inr (inr (inl x))))) e is = is
  read_eight (inr (inr (inr (inr (inr (inl x)))))) e is = is
  read_eight (inr (inr (inr (inr (inr (inr (inl x))))))) e is = is
  read_eight (inr (inr (inr (inr (inr (inr (inr (inl x)))))))) e is = is
  read_eight (inr (inr (inr (inr (inr (inr (inr (inr x)))))))) e is = is

  eight_apart : EightApart a b c d e f g h others → OneByOne8.each_apart
  eight_apart l = one l.first (one l.second (one l.third (one l.fourth (one l.fifth (one l.sixth (one l.seventh (one l.eighth l.rest)))))))

pub or_three_laws : {A B C R : Type 0} {a : Encoding A} {b : Encoding B} {c : Encoding C} {others : Alternatives R} → EncodingLaws a → EncodingLaws b → EncodingLaws c → AlternativesLaws others → AlternativesLaws (or_three a b c others)
or_three_laws {a = a} {b = b} {c = c} {others = others} la lb lc lo =
    viewed_laws among_three sum_of_three (OneByOne3 a b c others) (or_laws la (or_laws lb (or_laws lc lo))) _ _ _ _ _ _
    (among_three_sum_of_three a b c others) (three_at a b c others) (three_seen a b c others) (read_three a b c others) (three_read a b c others) (three_apart a b c others)

pub or_eight_laws : {A B C D E F G H R : Type 0} {a : Encoding A} {b : Encoding B} {c : Encoding C} {d : Encoding D} {e : Encoding E} {f : Encoding F} {g : Encoding G} {h : Encoding H} {others : Alternatives R} → EncodingLaws a → EncodingLaws b → EncodingLaws c → EncodingLaws d → EncodingLaws e → EncodingLaws f → EncodingLaws g → EncodingLaws h → AlternativesLaws others → AlternativesLaws (or_eight a b c d e f g h others)
or_eight_laws {a = a} {b = b} {c = c} {d = d} {e = e} {f = f} {g = g} {h = h} {others = others} la lb lc ld le lf lg lh lo =
    viewed_laws among_eight sum_of_eight (OneByOne8 a b c d e f g h others) (or_laws la (or_laws lb (or_laws lc (or_laws ld (or_laws le (or_laws lf (or_laws lg (or_laws lh lo)))))))) _ _ _ _ _ _
    (among_eight_sum_of_eight a b c d e f g h others) (eight_at a b c d e f g h others) (eight_seen a b c d e f g h others) (read_eight a b c d e f g h others) (eight_read a b c d e f g h others) (eight_apart a b c d e f g h others)
