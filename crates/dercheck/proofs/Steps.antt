-- Octets taken one after another, and the lines written for them.
use Rattle.std.proofs.Common.{◌≡◌, ℕ, ◌<◌, ◌≤◌, ◌↔◌, Bool, true, false, IsTrue, IfOk, OnOk, OnErr, codes, decimal, Option, List, [], ◌∷◌, ◌++◌, length, take, drop, Result, Ok, Err, refl, sym, ap, subst, ◌∙◌, inl, inr, append_assoc, arith}
use Rattle.std.specs.Prelude.{IsErr}
use Rattle.std.specs.List.{flat_map}
use Rattle.std.specs.Io.KnownBytes.{Appends, Consumes, IsAtEnd, Keeps}
use Rattle.std.proofs.KnownBytes.{Appends-nil, Appends-trans, Consumes-nil, Consumes-trans, Consumes-kept}
use Rattle.std.proofs.lemmas.List.{append-nil, length-append, length-take, take-append-drop, nil_from_length}
use Rattle.std.proofs.lemmas.List.Concat.{flat_map-append}
use Rattle.asn1.specs.declared.ParseErrorKind.{ParseErrorKind}
use Rattle.asn1.specs.declared.ParseErrorKind.TheVariants.{ShortData}
use Rattle.asn1.specs.Base256.{IsOctets}
use Rattle.asn1.specs.Tag.{identifier_octets}
use Rattle.asn1.specs.Length.{length_octets}
use Rattle.asn1.specs.Lemmas.Tags.{identifier_octets_nonempty}
use Rattle.asn1.specs.Lemmas.Texts.{IsOctets_suffix}
use Rattle.asn1.specs.Element.{Element, element_encoding, leading_element}
use Rattle.asn1.specs.Laws.{IsShort}
use Rattle.asn1.specs.Lemmas.Elements.{ElementFront}
use Rattle.dercheck.specs.Streams.{AppendsInPart}
use Rattle.dercheck.specs.Frames.{IsFraming, IsUnfinished, line_of, element_line, fault_line, answer_line, end_line, lines, Framed, FramedSoFar, FramedInPart, Stands, IsComplete, IsFault, Advances, Taken, TakenToFault, FramedTo}
use Rattle.dercheck.specs.declared.answers.Fault.{Fault}
use Rattle.dercheck.specs.declared.pending.Pending.{Pending}
use Rattle.dercheck.specs.declared.pending.Progress.TheVariants.{GoesOn, Completes, Fails}
use Rattle.dercheck.proofs.Parts.{AppendsInPart_append, AppendsInPart_after_Appends}
use Rattle.dercheck.proofs.Framings.{err_at, IsFraming_unfinished, IsFraming_one_element, IsFraming_append, lines_append, leading_element_empty}
use Rattle.dercheck.proofs.States.{begun_short}

-- what is pending is too short, by `needed`
pub Stands_ShortData : (p : Pending) (octets : List ℕ) → Stands p octets → leading_element octets ≡ Err (ShortData p.needed)
Stands_ShortData p octets (inl h) = h.short
Stands_ShortData p octets (inr h) = begun_short octets h.tag p.content_length h.content p.needed h.begun h.missing h.some

short_at : (a : ElementFront) (needed : ℕ) → a ≡ Err (ShortData needed) → IsShort a
short_at a needed e = rw e tt

pub Stands_IsUnfinished : (p : Pending) (octets : List ℕ) → Stands p octets → IsUnfinished octets
Stands_IsUnfinished p octets stands = short_at (leading_element octets) p.needed (Stands_ShortData p octets stands)

-- ---- one step

pub Taken_nil : (p : Pending) (octets before : List ℕ) → Stands p octets → Taken p (octets ++ []) before before
Taken_nil p octets before stands = record {
  elements = [];
  rest = octets;
  framing = rw (append-nil octets) (IsFraming_unfinished octets (Stands_IsUnfinished p octets stands));
  stands = stands;
  made_lines = sym (append-nil before);
}

-- remaining octets with more after them, which are no element yet
framing_more : (a b : List ℕ) (es : List Element) (p : List ℕ) → IsFraming a es p → IsErr (leading_element (p ++ b)) → IsFraming (a ++ b) es (p ++ b)
framing_more a b es p framing stops = record {
  readable = framing.readable;
  whole = ap (λ (l : List ℕ). l ++ b) framing.whole ∙ append_assoc (flat_map element_encoding es) p b;
  stops = stops;
}

pub goes_on : (p q : Pending) (a octets before made : List ℕ) → Taken p a before made → Advances p q GoesOn octets → Taken q (a ++ octets) before made
goes_on p q a octets before made taken step =
    let rest = taken.rest ++ octets in
    let stands : Stands q rest = step taken.rest taken.stands in
    record {
      elements = taken.elements;
      rest = rest;
      framing = framing_more a octets taken.elements taken.rest taken.framing (err_at (leading_element rest) (ShortData q.needed) (Stands_ShortData q rest stands));
      stands = stands;
      made_lines = taken.made_lines;
    }

complete_line : (q : Pending) (octets : List ℕ) (is : IsComplete q octets) → line_of (take q.count q.octets) q.content_length ≡ element_line is.element
complete_line q octets is = ap (λ (l : List ℕ). line_of l q.content_length) is.kept ∙ ap (line_of (identifier_octets is.element.tag)) is.count

-- the lines of one element more
lines_push : (es : List Element) (e : Element) → flat_map element_line (es ++ e ∷ []) ≡ flat_map element_line es ++ element_line e
lines_push es e = flat_map-append element_line es (e ∷ []) ∙ ap (λ (l : List ℕ). flat_map element_line es ++ l) (append-nil (element_line e))

pub Taken_Completes : (p q s : Pending) (a octets before made made' : List ℕ) → Taken p a before made → Advances p q Completes octets → Stands s []
    → made' ≡ made ++ line_of (take q.count q.octets) q.content_length → Taken s (a ++ octets) before made'
Taken_Completes p q s a octets before made made' taken step fresh line =
    let is : IsComplete q (taken.rest ++ octets) = step taken.rest taken.stands in
    let done = flat_map element_line taken.elements in
    record {
      elements = taken.elements ++ is.element ∷ [];
      rest = [];
      framing = IsFraming_append a octets taken.elements (is.element ∷ []) taken.rest [] taken.framing (IsFraming_one_element (taken.rest ++ octets) is.element is.readable is.whole);
      stands = fresh;
      made_lines = line
          ∙ ap (λ (l : List ℕ). l ++ line_of (take q.count q.octets) q.content_length) taken.made_lines
          ∙ append_assoc before done (line_of (take q.count q.octets) q.content_length)
          ∙ ap (λ (l : List ℕ). before ++ (done ++ l)) (complete_line q (taken.rest ++ octets) is)
          ∙ ap (λ (l : List ℕ). before ++ l) (sym (lines_push taken.elements is.element));
    }

answer_line_fault_line : (kind : ParseErrorKind) → ¬ IsShort {A = Element × List ℕ} (Err kind) → answer_line (Err kind) ≡ fault_line kind
answer_line_fault_line (ShortData needed) long = absurd (long tt)
answer_line_fault_line _ long = refl

-- the line of remaining octets that hold an error
fault_end : (octets : List ℕ) (kind : ParseErrorKind) → leading_element octets ≡ Err kind → ¬ IsShort (leading_element octets) → end_line octets ≡ fault_line kind
fault_end [] kind e long = absurd (long (short_at (leading_element []) 1 leading_element_empty))
fault_end (x ∷ xs) kind e long = ap answer_line e ∙ answer_line_fault_line kind (subst (λ (a : ElementFront). ¬ IsShort a) e long)

-- remaining octets that hold an error, whatever follows them
fault_more : (octets more : List ℕ) (kind : ParseErrorKind) → IsFault octets kind → IsOctets more → ¬ IsUnfinished (octets ++ more)
fault_more octets more kind fault is short = fault.long (subst (λ (a : ElementFront). IsShort a) (fault.stands more is ∙ sym fault.here) short)

pub Taken_Fails : (p q : Pending) (a octets more before made made' : List ℕ) (kind : ParseErrorKind) → Taken p a before made → Advances p q (Fails kind) octets → IsOctets more
    → made' ≡ made ++ fault_line kind → TakenToFault ((a ++ octets) ++ more) before made'
Taken_Fails p q a octets more before made made' kind taken step is line =
    let rest = taken.rest ++ octets in
    let fault : IsFault rest kind = step taken.rest taken.stands in
    let long : ¬ IsUnfinished (rest ++ more) = fault_more rest more kind fault is in
    record {
      elements = taken.elements;
      rest = rest ++ more;
      framing = framing_more (a ++ octets) more taken.elements rest
          (framing_more a octets taken.elements taken.rest taken.framing (err_at (leading_element rest) kind fault.here)) (err_at (leading_element (rest ++ more)) kind (fault.stands more is));
      long = long;
      made_lines = line
          ∙ ap (λ (l : List ℕ). l ++ fault_line kind) taken.made_lines
          ∙ append_assoc before (flat_map element_line taken.elements) (fault_line kind)
          ∙ ap (λ (l : List ℕ). before ++ (flat_map element_line taken.elements ++ l)) (sym (fault_end (rest ++ more) kind (fault.stands more is) long));
    }

-- ---- where the octets are

pub append_take_drop_rest : (octets all done rest : List ℕ) (n : ℕ) → done ++ rest ≡ all → ((octets ++ done) ++ take n rest) ++ drop n rest ≡ octets ++ all
append_take_drop_rest octets all done rest n e =
    append_assoc (octets ++ done) (take n rest) (drop n rest) ∙ ap (λ l. (octets ++ done) ++ l) (take-append-drop n rest) ∙ append_assoc octets done rest ∙ ap (λ l. octets ++ l) e

pub IsOctets_drop_rest : (all done rest : List ℕ) (n : ℕ) → done ++ rest ≡ all → IsOctets all → IsOctets (drop n rest)
IsOctets_drop_rest all done rest n e is =
    IsOctets_suffix (take n rest) (drop n rest) (subst IsOctets (sym (take-append-drop n rest)) (IsOctets_suffix done rest (subst IsOctets (sym e) is)))

-- ---- the line at the end

pub end_line_short : (octets : List ℕ) (needed : ℕ) → 0 < length octets → leading_element octets ≡ Err (ShortData needed) → end_line octets ≡ codes "short " ++ decimal needed ++ codes "\n"
end_line_short [] needed some e = absurd (omega arith)
end_line_short (x ∷ xs) needed some e = ap answer_line e

-- something is pending if an octet is kept, and else nothing
pub Stands_nonempty : (p : Pending) (octets : List ℕ) → Stands p octets → ¬ (p.count ≡ 0) → 0 < length octets
Stands_nonempty p octets (inl h) some = omega (arith, ap length h.kept, length-take p.count p.octets, p.size, p.few)
Stands_nonempty p octets (inr h) some = omega (arith, ap length h.begun.encoded, length-append (identifier_octets h.tag) (length_octets p.content_length ++ h.content), identifier_octets_nonempty h.tag)

-- ---- the whole stream

pub framed_none : (p : Pending) (left held : Option (List ℕ)) → Stands p [] → FramedTo p left left held held []
framed_none p left held stands = record {
  octets = [];
  elements = [];
  rest = [];
  read = Consumes-nil left;
  framing = IsFraming_unfinished [] (Stands_IsUnfinished p [] stands);
  stands = stands;
  sent = [];
  written = Appends-nil held;
  made_lines = refl;
}

-- the lines of a pull behind those that were kept
lines_more : (sent kept made : List ℕ) (es fs : List Element) (rest : List ℕ) → sent ++ kept ≡ flat_map element_line es → made ≡ kept ++ lines fs rest
    → sent ++ made ≡ lines (es ++ fs) rest
lines_more sent kept made es fs rest before more =
    ap (λ (l : List ℕ). sent ++ l) more
    ∙ sym (append_assoc sent kept (lines fs rest))
    ∙ ap (λ (l : List ℕ). l ++ lines fs rest) before
    ∙ sym (lines_append es fs rest)

pub framed_more : (p q : Pending) (l0 l1 l2 h0 h1 : Option (List ℕ)) (octets kept made : List ℕ) → FramedTo p l0 l1 h0 h1 kept → Consumes l1 l2 octets
    → ((text : List ℕ) → Stands p text → Taken q (text ++ octets) kept made) → FramedTo q l0 l2 h0 h1 made
framed_more p q l0 l1 l2 h0 h1 octets kept made framed read takes =
    let taken = takes framed.rest framed.stands in
    record {
      octets = framed.octets ++ octets;
      elements = framed.elements ++ taken.elements;
      rest = taken.rest;
      read = Consumes-trans l0 l1 l2 framed.octets octets framed.read read;
      framing = IsFraming_append framed.octets octets framed.elements taken.elements framed.rest taken.rest framed.framing taken.framing;
      stands = taken.stands;
      sent = framed.sent;
      written = framed.written;
      made_lines = ap (λ (l : List ℕ). framed.sent ++ l) taken.made_lines
          ∙ sym (append_assoc framed.sent kept (flat_map element_line taken.elements))
          ∙ ap (λ (l : List ℕ). l ++ flat_map element_line taken.elements) framed.made_lines
          ∙ sym (flat_map-append element_line framed.elements taken.elements);
    }

-- the lines that were kept are written
pub framed_put : (p : Pending) (l0 l1 h0 h1 h2 : Option (List ℕ)) (kept : List ℕ) → FramedTo p l0 l1 h0 h1 kept → Appends h1 h2 kept → FramedTo p l0 l1 h0 h2 []
framed_put p l0 l1 h0 h1 h2 kept framed put = record {
  octets = framed.octets;
  elements = framed.elements;
  rest = framed.rest;
  read = framed.read;
  framing = framed.framing;
  stands = framed.stands;
  sent = framed.sent ++ kept;
  written = Appends-trans h0 h1 h2 framed.sent kept framed.written put;
  made_lines = append-nil (framed.sent ++ kept) ∙ framed.made_lines;
}

-- nothing is kept
all_written : (p : Pending) (l0 l1 h0 h1 : Option (List ℕ)) (framed : FramedTo p l0 l1 h0 h1 []) → Appends h0 h1 (flat_map element_line framed.elements)
all_written p l0 l1 h0 h1 framed = subst (Appends h0 h1) (sym (append-nil framed.sent) ∙ framed.made_lines) framed.written

pub framed_so_far : (p : Pending) (l0 l1 l2 h0 h1 : Option (List ℕ)) → FramedTo p l0 l1 h0 h1 [] → Keeps l1 l2 → FramedSoFar l0 l2 h0 h1
framed_so_far p l0 l1 l2 h0 h1 framed kept = record {
  octets = framed.octets;
  elements = framed.elements;
  rest = framed.rest;
  read = Consumes-kept l0 l1 l2 framed.octets framed.read kept;
  framing = framed.framing;
  unfinished = Stands_IsUnfinished p framed.rest framed.stands;
  written = all_written p l0 l1 h0 h1 framed;
}

pub framed_fault : (p : Pending) (l0 l1 l2 h0 h1 h2 : Option (List ℕ)) (octets kept made : List ℕ) → FramedTo p l0 l1 h0 h1 kept → Consumes l1 l2 octets → length octets ≤ 256
    → ((text : List ℕ) → Stands p text → TakenToFault (text ++ octets) kept made) → Appends h1 h2 made → Framed l0 l2 h0 h2 false
framed_fault p l0 l1 l2 h0 h1 h2 octets kept made framed read few takes put =
    let taken = takes framed.rest framed.stands in
    record {
      octets = framed.octets ++ octets;
      elements = framed.elements ++ taken.elements;
      rest = taken.rest;
      read = Consumes-trans l0 l1 l2 framed.octets octets framed.read read;
      framing = IsFraming_append framed.octets octets framed.elements taken.elements framed.rest taken.rest framed.framing taken.framing;
      ends = inr (taken.long, (framed.octets, octets, refl, few, (framed.elements, framed.rest, framed.framing, Stands_IsUnfinished p framed.rest framed.stands)));
      written = subst (Appends h0 h2) (lines_more framed.sent kept made framed.elements taken.elements taken.rest framed.made_lines taken.made_lines)
          (Appends-trans h0 h1 h2 framed.sent made framed.written put);
      answer = (λ (w : IsTrue false). absurd cc, λ (none : taken.rest ≡ []). absurd (taken.long (short_at (leading_element taken.rest) 1 (ap leading_element none ∙ leading_element_empty))));
    }

-- the lines that were made, which were written in part
pub framed_in_part : (p q : Pending) (l0 l1 l2 h0 h1 h2 : Option (List ℕ)) (octets kept made : List ℕ) (goes_on : Bool) → FramedTo p l0 l1 h0 h1 kept → Consumes l1 l2 octets
    → (IsTrue goes_on → (text : List ℕ) → Stands p text → Taken q (text ++ octets) kept made)
    → (goes_on ≡ false → (text : List ℕ) → Stands p text → TakenToFault (text ++ octets) kept made)
    → AppendsInPart h1 h2 made → FramedInPart l0 l2 h0 h2
framed_in_part p q l0 l1 l2 h0 h1 h2 octets kept made true framed read takes faults put =
    let more = framed_more p q l0 l1 l2 h0 h1 octets kept made framed read (takes refl) in
    record {
      octets = more.octets;
      elements = more.elements;
      rest = more.rest;
      read = more.read;
      framing = more.framing;
      written = AppendsInPart_append h0 h2 (flat_map element_line more.elements) (end_line more.rest)
          (subst (AppendsInPart h0 h2) more.made_lines (AppendsInPart_after_Appends h0 h1 h2 more.sent made more.written put));
    }
framed_in_part p q l0 l1 l2 h0 h1 h2 octets kept made false framed read takes faults put =
    let taken = faults refl framed.rest framed.stands in
    record {
      octets = framed.octets ++ octets;
      elements = framed.elements ++ taken.elements;
      rest = taken.rest;
      read = Consumes-trans l0 l1 l2 framed.octets octets framed.read read;
      framing = IsFraming_append framed.octets octets framed.elements taken.elements framed.rest taken.rest framed.framing taken.framing;
      written = subst (AppendsInPart h0 h2) (lines_more framed.sent kept made framed.elements taken.elements taken.rest framed.made_lines taken.made_lines)
          (AppendsInPart_after_Appends h0 h1 h2 framed.sent made framed.written put);
    }

-- a pull of no octets
read_none : (a b c : Option (List ℕ)) (text octets : List ℕ) → Consumes a b text → Consumes b c octets → length octets ≡ 0 → Consumes a c text
read_none a b c text octets first next none =
    subst (Consumes a c) (ap (λ (l : List ℕ). text ++ l) (nil_from_length octets none) ∙ append-nil text) (Consumes-trans a b c text octets first next)

framed_end : (p : Pending) (l0 l1 l2 h0 h1 h2 : Option (List ℕ)) (octets : List ℕ) (whole : Bool) → FramedTo p l0 l1 h0 h1 [] → Consumes l1 l2 octets → length octets ≡ 0 → IsAtEnd l2
    → ((text : List ℕ) → Stands p text → (IsTrue whole ↔ (text ≡ []))) → ((text : List ℕ) → Stands p text → Appends h1 h2 (end_line text)) → Framed l0 l2 h0 h2 whole
framed_end p l0 l1 l2 h0 h1 h2 octets whole framed read none end answer line = record {
  octets = framed.octets;
  elements = framed.elements;
  rest = framed.rest;
  read = read_none l0 l1 l2 framed.octets octets framed.read read none;
  framing = framed.framing;
  ends = inl (end, Stands_IsUnfinished p framed.rest framed.stands);
  written = Appends-trans h0 h1 h2 (flat_map element_line framed.elements) (end_line framed.rest) (all_written p l0 l1 h0 h1 framed) (line framed.rest framed.stands);
  answer = answer framed.rest framed.stands;
}

pub finish_ok : (p : Pending) (l0 l1 l2 h0 h1 h2 : Option (List ℕ)) (octets : List ℕ) (r : Result Bool Fault) → FramedTo p l0 l1 h0 h1 [] → Consumes l1 l2 octets → length octets ≡ 0 → IsAtEnd l2
    → IfOk r (λ whole. (text : List ℕ) → Stands p text → (IsTrue whole ↔ (text ≡ []))) → OnOk r ((text : List ℕ) → Stands p text → Appends h1 h2 (end_line text))
    → IfOk r (λ whole. Framed l0 l2 h0 h2 whole)
finish_ok p l0 l1 l2 h0 h1 h2 octets (Ok whole) framed read none end answer line = framed_end p l0 l1 l2 h0 h1 h2 octets whole framed read none end answer line
finish_ok p l0 l1 l2 h0 h1 h2 octets (Err e) framed read none end answer line = tt

pub finish_cut : (p : Pending) (l0 l1 l2 h0 h1 h2 : Option (List ℕ)) (octets : List ℕ) (r : Result Bool Fault) (e : Fault) → FramedTo p l0 l1 h0 h1 [] → Consumes l1 l2 octets → length octets ≡ 0
    → OnErr r ((text : List ℕ) → Stands p text → AppendsInPart h1 h2 (end_line text)) → r ≡ Err e → FramedInPart l0 l2 h0 h2
finish_cut p l0 l1 l2 h0 h1 h2 octets (Ok whole) e framed read none cut is = absurd cc
finish_cut p l0 l1 l2 h0 h1 h2 octets (Err x) e framed read none cut is = record {
  octets = framed.octets;
  elements = framed.elements;
  rest = framed.rest;
  read = read_none l0 l1 l2 framed.octets octets framed.read read none;
  framing = framed.framing;
  written = AppendsInPart_after_Appends h0 h1 h2 (flat_map element_line framed.elements) (end_line framed.rest) (all_written p l0 l1 h0 h1 framed) (cut framed.rest framed.stands);
}
