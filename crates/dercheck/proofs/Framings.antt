-- Framings: any octets have one, and framings join.
use Rattle.std.proofs.Common.{◌≡◌, ℕ, zero, suc, ◌<◌, ◌≤◌, List, [], ◌∷◌, ◌++◌, length, Ok, Err, refl, sym, ap, subst, ◌∙◌, append_assoc, arith}
use Rattle.std.specs.Prelude.{IsErr}
use Rattle.std.specs.List.{AllByRecursion, flat_map}
use Rattle.std.proofs.lemmas.List.{append-nil, length-append}
use Rattle.std.proofs.lemmas.List.Concat.{flat_map-append}
use Rattle.asn1.specs.declared.ParseErrorKind.{ParseErrorKind}
use Rattle.asn1.specs.declared.ParseErrorKind.TheVariants.{ShortData}
use Rattle.asn1.specs.Base256.{IsOctets}
use Rattle.asn1.specs.Element.{Element, element_encoding, IsReadable, leading_element}
use Rattle.asn1.specs.Laws.{IsShort}
use Rattle.asn1.specs.Lemmas.Tags.{leading_tag_empty}
use Rattle.asn1.specs.Lemmas.Texts.{IsOctets_suffix}
use Rattle.asn1.specs.Lemmas.Elements.{ElementFront, leading_element_element_encoding, leading_element_tag_err, leading_element_ok_is}
use Rattle.asn1.proofs.Stands.{elements_are_apart}
use Rattle.dercheck.specs.Frames.{IsFraming, IsUnfinished, EachTextHasAFraming, TextsHaveOneFraming, element_line, end_line, lines}
use Rattle.asn1.specs.Lemmas.Facts.{length_positive}

pub leading_element_empty : leading_element [] ≡ Err (ShortData 1)
leading_element_empty = leading_element_tag_err [] (ShortData 1) (leading_tag_empty [] refl)

err_from_short : (a : ElementFront) → IsShort a → IsErr a
err_from_short (Ok found) short = absurd short
err_from_short (Err kind) short = refl

pub err_at : (a : ElementFront) (kind : ParseErrorKind) → a ≡ Err kind → IsErr a
err_at a kind e = rw e refl

-- no element, and remaining octets
pub IsFraming_nil : (octets : List ℕ) → IsErr (leading_element octets) → IsFraming octets [] octets
IsFraming_nil octets stops = record { readable = tt; whole = refl; stops = stops }

pub IsFraming_unfinished : (octets : List ℕ) → IsUnfinished octets → IsFraming octets [] octets
IsFraming_unfinished octets short = IsFraming_nil octets (err_from_short (leading_element octets) short)

-- one element, and no remaining octets
pub IsFraming_one_element : (octets : List ℕ) (e : Element) → IsReadable e → octets ≡ element_encoding e → IsFraming octets (e ∷ []) []
IsFraming_one_element octets e readable same = record {
  readable = (readable, tt);
  whole = same ∙ sym (append-nil (element_encoding e)) ∙ sym (append-nil (element_encoding e ++ []));
  stops = err_at (leading_element []) (ShortData 1) leading_element_empty;
}

AllByRecursion_append : (es fs : List Element) → AllByRecursion IsReadable es → AllByRecursion IsReadable fs → AllByRecursion IsReadable (es ++ fs)
AllByRecursion_append [] fs a b = b
AllByRecursion_append (e ∷ es) fs a b = (a.0, AllByRecursion_append es fs a.1 b)

-- the framing of the remaining octets and of more after them continues the first framing
pub IsFraming_append : (a b : List ℕ) (es fs : List Element) (p r : List ℕ) → IsFraming a es p → IsFraming (p ++ b) fs r → IsFraming (a ++ b) (es ++ fs) r
IsFraming_append a b es fs p r first next = record {
  readable = AllByRecursion_append es fs first.readable next.readable;
  whole =
      ap (λ (l : List ℕ). l ++ b) first.whole
      ∙ append_assoc (flat_map element_encoding es) p b
      ∙ ap (λ (l : List ℕ). flat_map element_encoding es ++ l) next.whole
      ∙ sym (append_assoc (flat_map element_encoding es) (flat_map element_encoding fs) r)
      ∙ ap (λ (l : List ℕ). l ++ r) (sym (flat_map-append element_encoding es fs));
  stops = next.stops;
}

pub lines_append : (es fs : List Element) (r : List ℕ) → lines (es ++ fs) r ≡ flat_map element_line es ++ lines fs r
lines_append es fs r = ap (λ (l : List ℕ). l ++ end_line r) (flat_map-append element_line es fs) ∙ append_assoc (flat_map element_line es) (flat_map element_line fs) (end_line r)

-- ---- any octets have a framing

element_encoding_nonempty : (e : Element) → IsReadable e → 0 < length (element_encoding e)
element_encoding_nonempty e readable = length_positive (element_encoding e) (λ (nothing : element_encoding e ≡ []).
    let whole : leading_element (element_encoding e) ≡ Ok (e, []) = sym (ap leading_element (append-nil (element_encoding e))) ∙ leading_element_element_encoding e [] readable in
    let none : leading_element (element_encoding e) ≡ Err (ShortData 1) = ap leading_element nothing ∙ leading_element_empty in
    absurd cc)

framing_by : (n : ℕ) (octets : List ℕ) (a : ElementFront) → length octets ≤ n → IsOctets octets → leading_element octets ≡ a → (es : List Element) × (rest : List ℕ) × IsFraming octets es rest
framing_by n octets (Err kind) few is e = ([], octets, IsFraming_nil octets (err_at (leading_element octets) kind e))
framing_by zero octets (Ok (found, rest)) few is e =
    let parts = leading_element_ok_is octets found rest is e in
    absurd (omega (arith, ap length parts.1, length-append (element_encoding found) rest, element_encoding_nonempty found parts.0))
framing_by (suc n) octets (Ok (found, rest)) few is e =
    let parts = leading_element_ok_is octets found rest is e in
    let fewer : length rest ≤ n = omega (arith, ap length parts.1, length-append (element_encoding found) rest, element_encoding_nonempty found parts.0) in
    let (es, last, framing) = framing_by n rest (leading_element rest) fewer (IsOctets_suffix (element_encoding found) rest (subst IsOctets parts.1 is)) refl in (
      found ∷ es,
      last,
      record {
        readable = (parts.0, framing.readable);
        whole = parts.1 ∙ ap (λ (l : List ℕ). element_encoding found ++ l) framing.whole ∙ sym (append_assoc (element_encoding found) (flat_map element_encoding es) last);
        stops = framing.stops;
      },
    )

pub framing_some : EachTextHasAFraming
framing_some octets is = framing_by (length octets) octets (leading_element octets) (omega arith) is refl

-- ---- and no other

stops_at : (e : Element) (rest octets : List ℕ) → IsReadable e → octets ≡ element_encoding e ++ rest → IsErr (leading_element octets) → ⊥
stops_at e rest octets readable same stops =
    let found : leading_element octets ≡ Ok (e, rest) = ap leading_element same ∙ leading_element_element_encoding e rest readable in
    let bad : IsErr {T = Element × List ℕ} {E = ParseErrorKind} (Ok (e, rest)) = subst (λ (a : ElementFront). IsErr a) found stops in
    cc

tail_whole : (e : Element) (es : List Element) (octets rest : List ℕ) → octets ≡ flat_map element_encoding (e ∷ es) ++ rest → octets ≡ element_encoding e ++ (flat_map element_encoding es ++ rest)
tail_whole e es octets rest same = same ∙ append_assoc (element_encoding e) (flat_map element_encoding es) rest

pub framing_only : TextsHaveOneFraming
framing_only octets [] [] rest other a b = (refl, sym a.whole ∙ b.whole)
framing_only octets [] (f ∷ fs) rest other a b =
    absurd (stops_at f (flat_map element_encoding fs ++ other) rest b.readable.0 (sym a.whole ∙ tail_whole f fs octets other b.whole) a.stops)
framing_only octets (e ∷ es) [] rest other a b =
    absurd (stops_at e (flat_map element_encoding es ++ rest) other a.readable.0 (sym b.whole ∙ tail_whole e es octets rest a.whole) b.stops)
framing_only octets (e ∷ es) (f ∷ fs) rest other a b =
    let apart = elements_are_apart e f (flat_map element_encoding es ++ rest) (flat_map element_encoding fs ++ other) a.readable.0 b.readable.0 (sym (tail_whole e es octets rest a.whole) ∙ tail_whole f fs octets other b.whole) in
    let next = framing_only (flat_map element_encoding es ++ rest) es fs rest other
    (record { readable = a.readable.1; whole = refl; stops = a.stops })
    (record { readable = b.readable.1; whole = apart.1; stops = b.stops }) in
    (ap (λ (x : Element). x ∷ es) apart.0 ∙ ap (λ (xs : List Element). f ∷ xs) next.0, next.1)
