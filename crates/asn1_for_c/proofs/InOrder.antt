-- Elements one after another, and their listing as it grows.
use Rattle.std.proofs.Common.{◌≡◌, ℕ, ◌+◌, ◌-◌, ◌<◌, ◌≤◌, true, false, leb, if◌then◌else◌, List, [], ◌∷◌, ◌++◌, length, take, drop, Result, Ok, Err, Option, Some, None, MatchOption, refl, sym, ap, ◌∙◌, append_assoc, arith, inl}
use Rattle.std.specs.Prelude.{nat_eq}
use Rattle.std.specs.Cmp.Lexicographic.{pointwise}
use Rattle.std.proofs.lemmas.List.{append-nil, drop_all, length-append, length-drop, length-take-le, take_all, take-take, take-append-le, drop-append-le}
use Rattle.std.proofs.lemmas.Bool.{le-leb, lt-leb}
use borrow.Rule.Slice.PartMut.{put_mid, mid_of}
use Rattle.std.proofs.Math.Seq.{take-append_seam, drop-append_seam}
use Rattle.asn1.specs.declared.ParseErrorKind.{ParseErrorKind}
use Rattle.asn1.specs.Element.{Element, element_encoding, IsLeadingElement}
use Rattle.std.specs.List.{concat, AllByRecursion}
use Rattle.asn1.specs.Listing.{encoding_less, IsElementEncoding, occurrences, SameEncodings, listing, place_encoding, EachEncoding, Joins}
use Rattle.asn1.specs.Lemmas.Elements.{element_encoding_not_nil, length_content_lt}
use Rattle.asn1.specs.Lemmas.Listing.{IsListing_listing, listing_joins, AllByRecursion_SameEncodings}
use Rattle.asn1.proofs.Stands.{elements_are_apart}
use Rattle.asn1_for_c.specs.SetOf.{AreElements, IsSetOf, LeavesSetOf, StopsAt}
use Rattle.asn1_for_c.specs.declared.errors.Asn1Error.{Asn1Error}
use Rattle.asn1_for_c.specs.Errors.{without_details, buffer_too_small}

-- ---- elements one after another

-- What `framing_error` returns.
abbrev pub IsFramed : List ℕ → Option ParseErrorKind → Type 0
IsFramed octets found = MatchOption found ((encodings : List (List ℕ)) × AreElements octets encodings) (λ kind. StopsAt octets kind)

pub IsFramed_after_element : (octets rest : List ℕ) (e : Element) (found : Option ParseErrorKind) → IsLeadingElement octets (Ok (e, rest)) → IsFramed rest found → IsFramed octets found
IsFramed_after_element octets rest e None is (encodings, a) = (element_encoding e ∷ encodings, record { each = ((e, is.0, refl), a.each); joined = is.1 ∙ ap (λ t. element_encoding e ++ t) a.joined })
IsFramed_after_element octets rest e (Some kind) is s =
    record {
      encodings = element_encoding e ∷ s.encodings;
      rest = s.rest;
      each = ((e, is.0, refl), s.each);
      joined = is.1 ∙ ap (λ t. element_encoding e ++ t) s.joined ∙ sym (append_assoc (element_encoding e) (concat s.encodings) s.rest);
      some = s.some;
      stops = s.stops;
    }

-- An element has an octet.
pub length_remaining_lt : (octets rest : List ℕ) (e : Element) → IsLeadingElement octets (Ok (e, rest)) → length rest < length octets
length_remaining_lt octets rest e is = omega (arith, ap length is.1, length-append (element_encoding e) rest, length_content_lt e)

-- The first of the elements is what the octets begin with.
pub AreElements_cons : (octets rest : List ℕ) (e : Element) (encodings : List (List ℕ)) → IsLeadingElement octets (Ok (e, rest)) → AreElements octets encodings → (others : List (List ℕ)) × (encodings ≡ element_encoding e ∷ others) × AreElements rest others
AreElements_cons octets rest e [] is a = absurd (none (element_encoding e) rest (sym is.1 ∙ a.joined) (element_encoding_not_nil e))
  where
    none : (t rest : List ℕ) → t ++ rest ≡ [] → (t ≡ [] → ⊥) → ⊥
    none [] rest same some = some refl
    none (x ∷ xs) rest same some = cc
AreElements_cons octets rest e (t ∷ ts) is a =
    let f = a.each.0 in
    let same = elements_are_apart f.0 e (concat ts) rest f.1 is.0 (ap (λ s. s ++ concat ts) (sym f.2) ∙ sym a.joined ∙ is.1) in
    (ts, ap (λ s. s ∷ ts) (f.2 ∙ ap element_encoding same.0), record { each = a.each.1; joined = sym same.1 })

-- If octets don't begin with an element, there is none.
pub AreElements_nil : (octets : List ℕ) (encodings : List (List ℕ)) (answer : Result (Element × List ℕ) ParseErrorKind) (kind : ParseErrorKind) → ((a : Result (Element × List ℕ) ParseErrorKind) → IsLeadingElement octets a → answer ≡ a) → answer ≡ Err kind → AreElements octets encodings → encodings ≡ []
AreElements_nil octets [] answer kind only err a = refl
AreElements_nil octets (t ∷ ts) answer kind only err a =
    let f = a.each.0 in
    absurd (differ answer (f.0, concat ts) kind (only (Ok (f.0, concat ts)) (f.1, a.joined ∙ ap (λ s. s ++ concat ts) f.2)) err)
  where
    differ : (answer : Result (Element × List ℕ) ParseErrorKind) (x : Element × List ℕ) (kind : ParseErrorKind) → answer ≡ Ok x → answer ≡ Err kind → ⊥
    differ answer x kind p q = cc

-- ---- the place of an element in a listing

pub place_encoding_after : (octets u : List ℕ) (us : List (List ℕ)) → encoding_less u octets ≡ true → place_encoding octets (u ∷ us) ≡ u ∷ place_encoding octets us
place_encoding_after octets u us less = rw less refl

pub place_encoding_here : (octets u : List ℕ) (us : List (List ℕ)) → encoding_less u octets ≡ false → place_encoding octets (u ∷ us) ≡ octets ∷ u ∷ us
place_encoding_here octets u us less = rw less refl

-- Octets of a listing before an element: wherever the element has its place behind them, it has that place in the
-- whole.
pub record IsPassed (listed octets front rest : List ℕ) : Type 0 where
  pub whole : listed ≡ front ++ rest
  pub behind : (encodings : List (List ℕ)) → AreElements listed encodings → (others : List (List ℕ)) × AreElements rest others × (concat (place_encoding octets encodings) ≡ front ++ concat (place_encoding octets others))

pub IsPassed_push : (listed octets front rest after : List ℕ) (e : Element) → IsPassed listed octets front rest → IsLeadingElement rest (Ok (e, after)) → encoding_less (element_encoding e) octets ≡ true → IsPassed listed octets (front ++ element_encoding e) after
IsPassed_push listed octets front rest after e p is less = record {
  whole = p.whole ∙ ap (λ t. front ++ t) is.1 ∙ sym (append_assoc front (element_encoding e) after);
  behind = λ encodings a.
      let b = p.behind encodings a in
      let f = AreElements_cons rest after e b.0 is b.1 in
      (f.0, f.2, b.2 ∙ ap (λ us. front ++ concat (place_encoding octets us)) f.1 ∙ ap (λ us. front ++ concat us) (place_encoding_after octets (element_encoding e) f.0 less) ∙ sym (append_assoc front (element_encoding e) (concat (place_encoding octets f.0))));
}

-- The place is behind what is passed, if the next element isn't less.
pub concat_place_encoding_here : (listed octets front rest after : List ℕ) (e : Element) → IsPassed listed octets front rest → IsLeadingElement rest (Ok (e, after)) → encoding_less (element_encoding e) octets ≡ false → (encodings : List (List ℕ)) → AreElements listed encodings → concat (place_encoding octets encodings) ≡ front ++ (octets ++ rest)
concat_place_encoding_here listed octets front rest after e p is less encodings a =
    let b = p.behind encodings a in
    let f = AreElements_cons rest after e b.0 is b.1 in
    b.2 ∙ ap (λ us. front ++ concat (place_encoding octets us)) f.1 ∙ ap (λ us. front ++ concat us) (place_encoding_here octets (element_encoding e) f.0 less) ∙ ap (λ us. front ++ (octets ++ concat us)) (sym f.1) ∙ ap (λ t. front ++ (octets ++ t)) (sym b.1.joined)

-- So it is, if there is no next element.
pub concat_place_encoding_last : (listed octets front rest : List ℕ) (answer : Result (Element × List ℕ) ParseErrorKind) (kind : ParseErrorKind) → IsPassed listed octets front rest → ((a : Result (Element × List ℕ) ParseErrorKind) → IsLeadingElement rest a → answer ≡ a) → answer ≡ Err kind → (encodings : List (List ℕ)) → AreElements listed encodings → concat (place_encoding octets encodings) ≡ front ++ (octets ++ rest)
concat_place_encoding_last listed octets front rest answer kind p only err encodings a =
    let b = p.behind encodings a in
    let none = AreElements_nil rest b.0 answer kind only err b.1 in
    b.2 ∙ ap (λ us. front ++ concat (place_encoding octets us)) none ∙ ap (λ t. front ++ (octets ++ t)) (ap concat (sym none) ∙ sym b.1.joined)

-- The place as a count of octets.
pub append_take_drop : (listed octets front rest : List ℕ) (n : ℕ) → listed ≡ front ++ rest → n ≡ length listed - length rest → front ++ (octets ++ rest) ≡ take n listed ++ octets ++ drop n listed
append_take_drop listed octets front rest n whole is =
    let size : n ≡ length front = omega (arith, is, ap length whole, length-append front rest) in
    let before : take n listed ≡ front = rw (size, whole) (take-append_seam front rest) in
    let after : drop n listed ≡ rest = rw (size, whole) (drop-append_seam front rest) in
    rw (before, after) (sym (append_assoc front octets rest))

-- ---- an element that comes behind a listing, and goes to its place by a rotation

turned : (front octets s : List ℕ) → s ≡ front ++ octets → drop (length s - length octets) s ++ take (length s - length octets) s ≡ octets ++ front
turned front octets s is =
    let size : length s - length octets ≡ length front = omega (arith, ap length is, length-append front octets) in
    rw (size, is, drop-append_seam front octets, take-append_seam front octets) refl

-- the end of a list, with other elements in its place
put_mid_last : (a : ℕ) (xs ys : List ℕ) → put_mid a (length xs - a) xs ys ≡ take a xs ++ ys
put_mid_last a xs ys = ap (λ zs. take a xs ++ (ys ++ zs)) (drop_all (length xs - a) (drop a xs) (omega (arith, length-drop a xs))) ∙ ap (λ zs. take a xs ++ zs) (append-nil ys)

mid_of_last : (a : ℕ) (xs : List ℕ) → mid_of a (length xs - a) xs ≡ drop a xs
mid_of_last a xs = take_all (length xs - a) (drop a xs) (omega (arith, length-drop a xs))

put_mid_rotated : (front octets all turn : List ℕ) (at : ℕ) → all ≡ front ++ octets → at ≤ length front
    → turn ≡ drop (length (mid_of at (length all - at) all) - length octets) (mid_of at (length all - at) all) ++ take (length (mid_of at (length all - at) all) - length octets) (mid_of at (length all - at) all)
    → put_mid at (length all - at) all turn ≡ take at front ++ octets ++ drop at front
put_mid_rotated front octets all turn at is within turns =
    let behind : drop at all ≡ drop at front ++ octets = ap (λ t. drop at t) is ∙ drop-append-le at front octets within in
    let before : take at all ≡ take at front = ap (λ t. take at t) is ∙ take-append-le at front octets within in
    let turned_is : turn ≡ octets ++ drop at front = turns ∙ turned (drop at front) octets (mid_of at (length all - at) all) (mid_of_last at all ∙ behind) in
    put_mid_last at all turn ∙ ap (λ t. t ++ turn) before ∙ ap (λ t. take at front ++ t) turned_is ∙ sym (append_assoc (take at front) octets (drop at front))

pub put_mid_place_encoding : (old octets copy turn : List ℕ) (at : ℕ) (encodings : List (List ℕ)) → let n = length old - length octets in let all = put_mid n (length old - n) old copy in
    length octets ≤ length old → at ≤ length (take n old) → copy ≡ octets
    → turn ≡ drop (length (mid_of at (length all - at) all) - length octets) (mid_of at (length all - at) all) ++ take (length (mid_of at (length all - at) all) - length octets) (mid_of at (length all - at) all)
    → concat (place_encoding octets encodings) ≡ take at (take n old) ++ octets ++ drop at (take n old)
    → put_mid at (length all - at) all turn ≡ concat (place_encoding octets encodings)
put_mid_place_encoding old octets copy turn at encodings room within copied turns place =
    let n = length old - length octets in
    let all = put_mid n (length old - n) old copy in
    put_mid_rotated (take n old) octets all turn at (put_mid_last n old copy ∙ ap (λ t. take n old ++ t) copied) within turns ∙ sym place

-- ---- the listing as it grows

-- The elements in the order in which a loop leaves them that takes one after another to the front.
abbrev pub poured : List (List ℕ) → List (List ℕ) → List (List ℕ)
poured [] done = done
poured (t ∷ ts) done = poured ts (t ∷ done)

occurrences_poured : (k : List ℕ) (ts done : List (List ℕ)) → occurrences k (poured ts done) ≡ occurrences k ts + occurrences k done
occurrences_poured k [] done = omega arith
occurrences_poured k (t ∷ ts) done = occurrences_poured k ts (t ∷ done) ∙ moved (occurrences k ts) (if pointwise nat_eq k t then 1 else 0) (occurrences k done)
  where
    moved : (a b n : ℕ) → a + (b + n) ≡ b + a + n
    moved a b n = omega arith

-- Some elements are in order at the start of the buffer, and the others come next.
pub record IsPartlyDone (octets rest buffer : List ℕ) (count : ℕ) : Type 0 where
  pub done : List (List ℕ)
  pub each : AllByRecursion IsElementEncoding done
  pub listed : take count buffer ≡ concat (listing done)
  pub others : List (List ℕ)
  pub others_are : AreElements rest others
  pub all : (encodings : List (List ℕ)) → AreElements rest encodings → (whole : List (List ℕ)) × AreElements octets whole × SameEncodings whole (poured encodings done)
  pub counted : count + length rest ≡ length octets

pub IsPartlyDone_nil : (octets buffer : List ℕ) (encodings : List (List ℕ)) → AreElements octets encodings → IsPartlyDone octets octets buffer 0
IsPartlyDone_nil octets buffer encodings a = record {
  done = [];
  each = tt;
  listed = refl;
  others = encodings;
  others_are = a;
  all = λ ts b. (ts, b, λ k. omega (arith, occurrences_poured k ts []));
  counted = omega arith;
}

module _ (octets rest after old new text : List ℕ) (count : ℕ) (e : Element) where
  -- One more element is in its place.
  pub IsPartlyDone_push : IsPartlyDone octets rest old count → IsLeadingElement rest (Ok (e, after)) → text ≡ element_encoding e → length octets ≡ length old → length new ≡ length (take (count + length text) old)
      → ((encodings : List (List ℕ)) → AreElements (take (length (take (count + length text) old) - length text) (take (count + length text) old)) encodings → new ≡ concat (place_encoding text encodings))
      → IsPartlyDone octets after (new ++ drop (count + length text) old) (count + length text)
  IsPartlyDone_push p is same room kept placed =
      let first = AreElements_cons rest after e p.others is p.others_are in
      let size : length rest ≡ length text + length after = ap length is.1 ∙ length-append (element_encoding e) after ∙ ap (λ t. length t + length after) (sym same) in
      let within : count + length text ≤ length old = omega (arith, p.counted, size, room) in
      let part : length (take (count + length text) old) ≡ count + length text = length-take-le (count + length text) old within in
      let before : take (length (take (count + length text) old) - length text) (take (count + length text) old) ≡ take count old =
      take-take (length (take (count + length text) old) - length text) (count + length text) old (omega (arith, part)) ∙ ap (λ n. take n old) (omega (arith, part)) in
      let listed : AreElements (take (length (take (count + length text) old) - length text) (take (count + length text) old)) (listing p.done) = record { each = AllByRecursion_SameEncodings IsElementEncoding p.done (listing p.done) (IsListing_listing p.done).same p.each; joined = before ∙ p.listed } in
      record {
        done = element_encoding e ∷ p.done;
        each = ((e, is.0, refl), p.each);
        listed = ap (λ n. take n (new ++ drop (count + length text) old)) (sym (kept ∙ part)) ∙ take-append_seam new (drop (count + length text) old) ∙ placed (listing p.done) listed ∙ ap (λ t. concat (place_encoding t (listing p.done))) same;
        others = first.0;
        others_are = first.2;
        all = λ encodings a. p.all (element_encoding e ∷ encodings) (record { each = ((e, is.0, refl), a.each); joined = is.1 ∙ ap (λ t. element_encoding e ++ t) a.joined });
        counted = omega (arith, p.counted, size);
      }

-- All are, if octets don't begin with an element.
pub IsPartlyDone_IsSetOf : (octets rest buffer : List ℕ) (count : ℕ) (answer : Result (Element × List ℕ) ParseErrorKind) (kind : ParseErrorKind) → IsPartlyDone octets rest buffer count → length octets ≡ length buffer
    → ((a : Result (Element × List ℕ) ParseErrorKind) → IsLeadingElement rest a → answer ≡ a) → answer ≡ Err kind → IsSetOf octets buffer
IsPartlyDone_IsSetOf octets rest buffer count answer kind p room only err =
    let none = AreElements_nil rest p.others answer kind only err p.others_are in
    let empty : rest ≡ [] = p.others_are.joined ∙ ap concat none in
    let whole = p.all [] (record { each = tt; joined = empty }) in
    record {
      encodings = whole.0;
      elements = whole.1;
      listed = listing p.done;
      listing = record { same = λ t. whole.2 t ∙ (IsListing_listing p.done).same t; sorted = (IsListing_listing p.done).sorted };
      is = sym (take_all count buffer (omega (arith, p.counted, ap length empty, room))) ∙ p.listed;
    }

-- ---- what a call leaves

EachEncoding_self : (ts : List (List ℕ)) → EachEncoding (λ (u t : List ℕ). t ≡ u) ts ts
EachEncoding_self [] = refl
EachEncoding_self (t ∷ ts) = (refl, EachEncoding_self ts)

Joins_self : (ts : List (List ℕ)) (t : List ℕ) → Joins (λ (u t : List ℕ). t ≡ u) ts t → t ≡ concat ts
Joins_self [] t j = j
Joins_self (u ∷ us) t j = j.is ∙ ap (λ s. s ++ j.others) j.one ∙ ap (λ s. u ++ s) (Joins_self us j.others j.rest)

-- A set has as many octets as its elements.
length_IsSetOf : (octets contents : List ℕ) → IsSetOf octets contents → length contents ≡ length octets
length_IsSetOf octets contents s =
    let j = listing_joins (λ (u t : List ℕ). t ≡ u) s.encodings contents (record { chosen = s.encodings; each = EachEncoding_self s.encodings; listed = s.listed; listing = s.listing; is = s.is }) in
    j.2 ∙ ap length (Joins_self s.encodings j.0 j.1 ∙ sym s.elements.joined)

module _ (octets old : List ℕ) where
  pub LeavesSetOf_ok : (contents new : List ℕ) (found : Asn1Error) → IsSetOf octets contents → length octets ≤ length old → new ≡ contents ++ drop (length octets) old → found ≡ without_details 0 → LeavesSetOf octets old new (length octets) found
  LeavesSetOf_ok contents new found s room left told =
      let size = length_IsSetOf octets contents s in
      let room_is : leb (length contents) (length old) ≡ true = le-leb (length contents) (length old) (omega (arith, size, room)) in
      inl (contents, s, (left ∙ ap (λ n. contents ++ drop n old) (sym size) ∙ sym (rw room_is refl), sym size), told ∙ sym (rw room_is refl))

  pub LeavesSetOf_too_small : (encodings : List (List ℕ)) (new : List ℕ) (found : Asn1Error) → AreElements octets encodings → length old < length octets → new ≡ old → found ≡ without_details buffer_too_small → LeavesSetOf octets old new (length octets) found
  LeavesSetOf_too_small encodings new found a room left told =
      let s : IsSetOf octets (concat (listing encodings)) = record { encodings = encodings; elements = a; listed = listing encodings; listing = IsListing_listing encodings; is = refl } in
      let size = length_IsSetOf octets (concat (listing encodings)) s in
      let few : leb (length (concat (listing encodings))) (length old) ≡ false = lt-leb (length (concat (listing encodings))) (length old) (omega (arith, size, room)) in
      inl (concat (listing encodings), s, (left ∙ sym (rw few refl), sym size), told ∙ sym (rw few refl))
