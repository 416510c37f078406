-- Texts that are appended in parts; the end of a name; locations from the innermost; what is left in a buffer.
use Rattle.std.proofs.Common.{◌≡◌, ℕ, ◌+◌, ◌-◌, ◌^◌, ◌<◌, ◌≤◌, ◌==◌, min, Bool, true, false, not, leb, cond, List, [], ◌∷◌, ◌++◌, length, take, drop, get_or, map, reverse, refl, sym, ap, subst, ◌∙◌, append_assoc, arith, take_all}
use Rattle.std.proofs.lemmas.Bool.{eq-eqb, ne_eqb, le-leb, lt-leb}
use Rattle.std.proofs.lemmas.Grind.{reverse_onto}
use Rattle.std.proofs.lemmas.List.{drop_min, drop_more, length-drop, length-map, length-reverse, length-take, map-append, reverse-append, take-append-drop, take_min, take_rest}
use Rattle.std.proofs.lemmas.List.Folds.{prefix_len-append}
use Rattle.std.specs.List.{after_last, join_with_byte, prefix_len}
use Rattle.asn1.specs.declared.Place.{Place}
use Rattle.asn1_for_c.specs.Locations.{Appends, Holds, colon, point, letter, in_capitals, location_text, place_text}
use Rattle.asn1_for_c.specs.Texts.{LeavesText}

-- ---- a text in parts

-- Two parts.
pub Appends_append : (s t octets b₀ b₁ b₂ : List ℕ) (c₀ c₁ c₂ : ℕ) → Appends s b₀ c₀ b₁ c₁ → Appends t b₁ c₁ b₂ c₂ → octets ≡ s ++ t → Appends octets b₀ c₀ b₂ c₂
Appends_append s t octets b₀ b₁ b₂ c₀ c₁ c₂ first second is front old holds =
    subst (λ all. Holds all old b₂ c₂) (append_assoc front s t ∙ ap (λ l. front ++ l) (sym is)) (second (front ++ s) old (first front old holds))

-- One octet more of a name.
pub in_capitals_step : (is_capital : Bool) (name : List ℕ) (i : ℕ) → i < length name
    → in_capitals is_capital (drop i name) ≡ letter is_capital (get_or name i 0) ++ in_capitals (get_or name i 0 == 95) (drop (i + 1) name)
in_capitals_step is_capital name i more = ap (in_capitals is_capital) (drop_more name i 0 more)

-- ---- the end of a name

abbrev no_colon : ℕ → Bool
no_colon octet = not (octet == colon)

prefix_len_append_cons : (a b : List ℕ) (x : ℕ) → prefix_len no_colon a ≡ length a → prefix_len no_colon (a ++ (x ∷ b)) ≡ length a + cond (no_colon x) (1 + prefix_len no_colon b) 0
prefix_len_append_cons a b x all = prefix_len-append no_colon a (x ∷ b) ∙ ap (λ t. cond t (length a + prefix_len no_colon (x ∷ b)) (prefix_len no_colon a)) (eq-eqb (prefix_len no_colon a) (length a) all)

module _ (name : List ℕ) (start : ℕ) (within : start ≤ length name) (so_far : prefix_len no_colon (reverse (drop start name)) ≡ length name - start) where
  abbrev back : List ℕ
  back = reverse (drop start name)

  back_length : length back ≡ length name - start
  back_length = length-reverse (drop start name) ∙ length-drop start name

  before : 0 < start → drop (start - 1) name ≡ get_or name (start - 1) 0 ∷ drop start name
  before some = drop_more name (start - 1) 0 (omega (arith, some, within)) ∙ ap (λ n. get_or name (start - 1) 0 ∷ drop n name) (omega (arith, some))

  -- One octet more that is no colon.
  pub prefix_len_reverse_drop : 0 < start → ¬ (get_or name (start - 1) 0 ≡ colon) → prefix_len no_colon (reverse (drop (start - 1) name)) ≡ length name - (start - 1)
  prefix_len_reverse_drop some other =
      let x = get_or name (start - 1) 0 in
      ap (λ l. prefix_len no_colon (reverse l)) (before some) ∙ ap (prefix_len no_colon) (reverse_onto (drop start name) x []) ∙ prefix_len_append_cons back [] x (so_far ∙ sym back_length)
      ∙ ap (λ t. length back + cond t (1 + 0) 0) (ap not (ne_eqb x colon other)) ∙ omega (arith, back_length, some, within)

  prefix_len_reverse_colon : 0 < start → get_or name (start - 1) 0 ≡ colon → prefix_len no_colon (reverse name) ≡ length name - start
  prefix_len_reverse_colon some is =
      let x = get_or name (start - 1) 0 in
      let front = take (start - 1) name in
      let whole : name ≡ front ++ (x ∷ drop start name) = sym (take-append-drop (start - 1) name) ∙ ap (λ l. front ++ l) (before some) in
      let backwards : reverse name ≡ back ++ (x ∷ reverse front) =
      ap reverse whole ∙ reverse-append front (x ∷ drop start name) ∙ ap (λ l. l ++ reverse front) (reverse_onto (drop start name) x []) ∙ append_assoc back (x ∷ []) (reverse front) in
      ap (prefix_len no_colon) backwards ∙ prefix_len_append_cons back (reverse front) x (so_far ∙ sym back_length) ∙ ap (λ t. length back + cond t (1 + prefix_len no_colon (reverse front)) 0) (ap not (eq-eqb x colon is)) ∙ omega (arith, back_length)

  ends_at : prefix_len no_colon (reverse name) ≡ length name - start → take (length name - start) (drop start name) ≡ after_last (λ octet. octet == colon) name
  ends_at count = take_rest name start ∙ ap (λ n. drop n name) (omega (arith, count, within))

  pub after_last_colon : 0 < start → get_or name (start - 1) 0 ≡ colon → take (length name - start) (drop start name) ≡ after_last (λ octet. octet == colon) name
  after_last_colon some is = ends_at (prefix_len_reverse_colon some is)

  pub after_last_no_colon : start ≡ 0 → take (length name - start) (drop start name) ≡ after_last (λ octet. octet == colon) name
  after_last_no_colon none = ends_at (ap (λ n. prefix_len no_colon (reverse (drop n name))) (sym none) ∙ so_far)

-- ---- locations

-- A last piece.
join_with_byte_push : (pieces : List (List ℕ)) (last : List ℕ) → 0 < length pieces → join_with_byte point (pieces ++ (last ∷ [])) ≡ join_with_byte point pieces ++ (point ∷ last)
join_with_byte_push [] last some = absurd (omega (arith, some))
join_with_byte_push (x ∷ []) last some = refl
join_with_byte_push (x ∷ y ∷ pieces) last some = ap (λ l. x ++ (point ∷ l)) (join_with_byte_push (y ∷ pieces) last (omega arith)) ∙ sym (append_assoc x (point ∷ join_with_byte point (y ∷ pieces)) (point ∷ last))

location_text_cons : (place : Place) (around : List Place) → 0 < length around → location_text (place ∷ around) ≡ location_text around ++ (point ∷ place_text place)
location_text_cons place around some =
    ap (λ l. join_with_byte point (map place_text l)) (reverse_onto around place []) ∙ ap (join_with_byte point) (map-append place_text (reverse around) (place ∷ []))
    ∙ join_with_byte_push (map place_text (reverse around)) (place_text place) (omega (arith, some, length-map (reverse around) place_text, length-reverse around))

-- The innermost location of several.
pub location_text_innermost : (places : List Place) (place : Place) → 1 < length places → place ≡ get_or places 0 place → location_text places ≡ (location_text (take (length places - 1) (drop 1 places)) ++ (point ∷ [])) ++ place_text place
location_text_innermost places place some is =
    ap location_text (drop_more places 0 place (omega (arith, some)) ∙ ap (λ p. p ∷ drop 1 places) (sym is))
    ∙ location_text_cons place (drop 1 places) (omega (arith, some, length-drop 1 places)) ∙ sym (append_assoc (location_text (drop 1 places)) (point ∷ []) (place_text place))
    ∙ ap (λ l. (location_text l ++ (point ∷ [])) ++ place_text place) (sym (take_rest places 1))

-- ---- what is left

module _ (octets old : List ℕ) where
  abbrev cut : List ℕ
  cut = take (2 ^ 64 - 1) octets

  none : Holds [] old old 0
  none = record { octets = sym (ap (λ l. l ++ old) (take_all (length old) [] (omega arith))); counted = refl }

  counted : (empty : List ℕ) (count : ℕ) → Appends octets [] 0 empty count → count ≡ length cut
  counted empty count counts = (counts [] [] (record { octets = refl; counted = refl })).counted ∙ sym (length-take (2 ^ 64 - 1) octets)

  same : length cut ≤ length old → length old < 2 ^ 64 → take (length old) octets ++ drop (length octets) old ≡ cut ++ drop (length cut) old
  same room short =
      let size : length cut ≡ min (2 ^ 64 - 1) (length octets) = length-take (2 ^ 64 - 1) octets in
      let fronts : take (length old) octets ≡ cut = sym (take_min (length old) octets) ∙ ap (λ n. take n octets) (omega (arith, size, room, short)) ∙ take_min (2 ^ 64 - 1) octets in
      let backs : drop (length octets) old ≡ drop (length cut) old = sym (drop_min (length octets) old) ∙ ap (λ n. drop n old) (omega (arith, size, room, short)) ∙ drop_min (length cut) old in
      ap (λ l. l ++ drop (length octets) old) fronts ∙ ap (λ l. cut ++ l) backs

  pub LeavesText_fits : (empty new : List ℕ) (count last : ℕ) → length old < 2 ^ 64 → Appends octets [] 0 empty count → count ≤ length old → Appends octets old 0 new last → LeavesText cut old new last
  LeavesText_fits empty new count last short counts room puts =
      let holds = puts [] old none in
      let size = counted empty count counts in
      let fits : leb (length cut) (length old) ≡ true = le-leb (length cut) (length old) (omega (arith, size, room)) in
      (holds.octets ∙ same (omega (arith, size, room)) short ∙ sym (rw fits refl), holds.counted ∙ sym (length-take (2 ^ 64 - 1) octets))

  pub LeavesText_too_small : (empty : List ℕ) (count : ℕ) → Appends octets [] 0 empty count → length old < count → LeavesText cut old old count
  LeavesText_too_small empty count counts room =
      let size = counted empty count counts in
      let few : leb (length cut) (length old) ≡ false = lt-leb (length cut) (length old) (omega (arith, size, room)) in
      (sym (rw few refl), size)
