-- Lists and sets that are made of items mean these items.
use Rattle.std.proofs.Common.{◌≡◌, ◌+◌, ◌<◌, ◌≤◌, ◌^◌, ◌∙◌, ℕ, List, [], ◌∷◌, length, map, Bool, true, false, if◌then◌else◌, Result, Ok, Err, refl, sym, ap, subst, arith, ⊎_elim, inl, inr}
use Rattle.std.specs.Prelude.{IfOk, IsErrAnd, IsOk}
use Rattle.std.specs.Borrow.{Bor}
use Rattle.std.proofs.lemmas.Bool.{cases_lt}
use Rattle.std.proofs.lemmas.List.{append-nil}
use Rattle.asn1_core.specs.declared.parser.ParseErrorKind.{ParseErrorKind}
use Rattle.asn1_core.specs.declared.parser.ParseErrorKind.TheVariants.{InvalidLength}
use Rattle.asn1_core.specs.declared.parser.Place.{Place}
use Rattle.asn1_core.specs.declared.tag.Tag.{Tag}
use Rattle.asn1_core.specs.Base256.{IsOctets}
use Rattle.asn1_core.specs.ReadError.{ReadError}
use Rattle.asn1_core.specs.Element.{Element, element, element_encoding, leading_element}
use Rattle.asn1_core.specs.Reading.{Returns, Fits}
use Rattle.std.specs.List.{concat, flat_map, AllByRecursion}
use Rattle.asn1_core.specs.Listing.{encoding_less, InOrder, listing, place_encoding}
use Rattle.asn1_core.specs.Lemmas.Contents.{Fits_IsReadable}
use Rattle.asn1_core.specs.Lemmas.Elements.{leading_element_element_encoding, IsOctets_element_content, leading_element_too_long}
use Rattle.asn1_core.specs.Lemmas.Listing.{IsListing_listing}
use Rattle.asn1_core.specs.Lemmas.Results.{done_injective}
use Rattle.asn1_core.specs.Der.{Der, encoding_of}
use Rattle.asn1_core.specs.Reads.{ReadsContents}
use Rattle.asn1.specs.Lists.{IsInBounds, sequence_read}
use Rattle.asn1.specs.ListTypes.{items_inside}
use Rattle.asn1.specs.LawsOf.Lists.{sequence_of_consumes, sequence_of_read_back, set_of_read_back}
use Rattle.asn1.specs.Types.{list_der, set_der}
use Rattle.asn1.specs.Sets.{set_read}
use Rattle.asn1.specs.SetTypes.{set_inside}
use Rattle.asn1.specs.MadeLists.{AreContents, place_value, in_order}
use Rattle.asn1.proofs.ReadListings.{flat_map_concat}

module _ {M : Type 0} (encoding : M → List ℕ) where
  placed : (m n : M) (ns : List M) (b : Bool) → map encoding (place_value encoding m ns) ≡ place_encoding (encoding m) (map encoding ns) →
      map encoding (if b then n ∷ place_value encoding m ns else m ∷ n ∷ ns) ≡ (if b then encoding n ∷ place_encoding (encoding m) (map encoding ns) else encoding m ∷ encoding n ∷ map encoding ns)
  placed m n ns true e = ap (λ (ts : List (List ℕ)). encoding n ∷ ts) e
  placed m n ns false e = refl

  map_place_value : (m : M) (ns : List M) → map encoding (place_value encoding m ns) ≡ place_encoding (encoding m) (map encoding ns)
  map_place_value m [] = refl
  map_place_value m (n ∷ ns) = placed m n ns (encoding_less (encoding n) (encoding m)) (map_place_value m ns)

  -- the encodings of values in order are the listing of their encodings
  pub map_in_order : (ms : List M) → map encoding (in_order encoding ms) ≡ listing (map encoding ms)
  map_in_order [] = refl
  map_in_order (m ∷ ms) = map_place_value m (in_order encoding ms) ∙ ap (place_encoding (encoding m)) (map_in_order ms)

  pub concat_listing : (ms : List M) → concat (listing (map encoding ms)) ≡ flat_map encoding (in_order encoding ms)
  concat_listing ms = sym (flat_map_concat encoding (in_order encoding ms) ∙ ap concat (map_in_order ms))

  InOrder_in_order : (ms : List M) → InOrder encoding_less [] (map encoding (in_order encoding ms))
  InOrder_in_order ms = subst (InOrder encoding_less []) (sym (map_in_order ms)) (IsListing_listing (map encoding ms)).sorted

  module _ (P : M → Type 0) where
    each_by : (m n : M) (ns : List M) (b : Bool) → P m → P n → AllByRecursion P ns → AllByRecursion P (place_value encoding m ns) → AllByRecursion P (if b then n ∷ place_value encoding m ns else m ∷ n ∷ ns)
    each_by m n ns true p q each placed = (q, placed)
    each_by m n ns false p q each placed = (p, (q, each))

    each_placed : (m : M) (ns : List M) → P m → AllByRecursion P ns → AllByRecursion P (place_value encoding m ns)
    each_placed m [] p each = (p, tt)
    each_placed m (n ∷ ns) p each = each_by m n ns (encoding_less (encoding n) (encoding m)) p each.0 each.1 (each_placed m ns p each.1)

    pub each_in_order : (ms : List M) → AllByRecursion P ms → AllByRecursion P (in_order encoding ms)
    each_in_order [] each = tt
    each_in_order (m ∷ ms) each = each_placed m (in_order encoding ms) each.0 (each_in_order ms each.1)

-- ---- the contents octets that are read

abbrev Front : Type 0
Front = Result (Element × List ℕ) ParseErrorKind

Ok_ne_Err : (f : Element × List ℕ) (kind : ParseErrorKind) → ◌≡◌ {A = Front} (Ok f) (Err kind) → ⊥
Ok_ne_Err f kind same = cc

abbrev element_or : Element → Front → Element
element_or e (Ok x) = x.0
element_or e (Err kind) = e

Ok_element_injective : (e f : Element) (rest other : List ℕ) → ◌≡◌ {A = Front} (Ok (e, rest)) (Ok (f, other)) → e ≡ f
Ok_element_injective e f rest other same = ap (element_or e) same

module _ (octets : List ℕ) (tag : Tag) (content : List ℕ) (small : tag.value < 2 ^ 32) (is : octets ≡ element_encoding (element tag content)) where
  leading_element_short_contents : length content < 2 ^ 32 → leading_element octets ≡ Ok (element tag content, [])
  leading_element_short_contents short = ap leading_element (is ∙ sym (append-nil (element_encoding (element tag content)))) ∙ leading_element_element_encoding (element tag content) [] (record { tag = small; content = short })

  leading_element_long_contents : 2 ^ 32 ≤ length content → leading_element octets ≡ Err InvalidLength
  leading_element_long_contents long = ap leading_element (is ∙ sym (append-nil (element_encoding (element tag content)))) ∙ leading_element_too_long (element tag content) [] small long

  -- an element is found
  pub AreContents_ok : (e : Element) (rest : List ℕ) (found : Bor (List ℕ)) → IsOctets octets → leading_element octets ≡ Ok (e, rest) → found.now ≡ e.content → AreContents content (Ok found)
  AreContents_ok e rest found text front_is now = ⊎_elim
      (λ (short : length content < 2 ^ 32).
      let same : e ≡ element tag content = Ok_element_injective e (element tag content) rest [] (sym front_is ∙ leading_element_short_contents short) in
      (now ∙ ap (λ (x : Element). x.content) same, IsOctets_element_content (element tag content) (subst IsOctets is text), short))
      (λ (long : 2 ^ 32 ≤ length content). absurd (Ok_ne_Err (e, rest) InvalidLength (sym front_is ∙ leading_element_long_contents long)))
      (cases_lt (length content) (2 ^ 32))

  -- no element is found
  pub AreContents_err : (result : Result (Bor (List ℕ)) ReadError) (fault : ReadError) → IsErrAnd result (λ x. x ≡ fault) → leading_element octets ≡ Err fault.kind → AreContents content result
  AreContents_err (Ok found) fault is_err front_is = absurd is_err
  AreContents_err (Err f) fault is_err front_is = ⊎_elim
      (λ (short : length content < 2 ^ 32). absurd (Ok_ne_Err (element tag content, []) fault.kind (sym (leading_element_short_contents short) ∙ front_is)))
      (λ (long : 2 ^ 32 ≤ length content). long)
      (cases_lt (length content) (2 ^ 32))

-- an encoding that can be read has fewer than 2^32 contents octets
pub Fits_length_content : (tag : Tag) (content : List ℕ) → tag.value < 2 ^ 32 → Fits (element_encoding (element tag content)) → length content < 2 ^ 32
Fits_length_content tag content small fits = (Fits_IsReadable (element tag content) small fits).content

-- ---- what lists and sets of such octets mean

-- without an allocation a value is returned
pub IsOk_Returns : {V M : Type 0} (view : V → M) (out : List Place → Type 0) (result : Result V ReadError) (m : M) → ((places : List Place) → out places → ⊥) → Returns view out result (Ok m) → IsOk result
IsOk_Returns view out (Ok v) m none e = refl
IsOk_Returns view out (Err f) m none (inl e) = absurd cc
IsOk_Returns view out (Err f) m none (inr e) = absurd (none f.places e.1)

-- a value that is returned means what is read
pub Returns_IfOk : {V M : Type 0} (view : V → M) (out : List Place → Type 0) (result : Result V ReadError) (read : Result M ReadError) (m : M) → Returns view out result read → ((n : M) → read ≡ Ok n → n ≡ m) → IfOk result (λ v. view v ≡ m)
Returns_IfOk view out (Ok v) read m answers same = same (view v) answers
Returns_IfOk view out (Err f) read m answers same = tt

module _ {V : Type 0} (d : Der V) (ms : List d.Meaning) (valid : AllByRecursion d.valid ms) where
  -- values in order are a value of a set
  pub valid_in_order : AllByRecursion d.valid (in_order d.encoding ms) × InOrder encoding_less [] (map d.encoding (in_order d.encoding ms))
  valid_in_order = (each_in_order d.encoding d.valid ms valid, InOrder_in_order d.encoding ms)

  module _ (lawful : d.lawful) (is_element : d.is_element) (allowed : AllByRecursion d.allowed ms) where
    -- items of a list have one encoding, however many a list may have
    pub same_list : (low high : ℕ) (ns : List d.Meaning) → IsOctets (flat_map d.encoding ms) → length (flat_map d.encoding ms) < 2 ^ 32 → sequence_read d.read low high (flat_map d.encoding ms) ≡ Ok ns → ns ≡ ms
    same_list low high ns octets short e =
        let h = sequence_of_consumes low high (encoding_of d) d.laws (flat_map d.encoding ms) ns octets e in
        let free : (count : ℕ) → (0 ≤ count) × (2 ^ 64 + 1 < 2 ^ 64 → count ≤ 2 ^ 64) = λ count. (omega arith, λ less. absurd (omega (arith, less))) in
        let again : (ks : List d.Meaning) → AllByRecursion d.valid ks → AllByRecursion d.allowed ks → length (flat_map d.encoding ks) < 2 ^ 32 → sequence_read d.read 0 (2 ^ 64) (flat_map d.encoding ks) ≡ Ok ks = λ ks v a s. sequence_of_read_back 0 (2 ^ 64) (encoding_of d) d.laws ks (lawful, is_element) v (a, free (length ks)) s in
        done_injective ns ms (sym (again ns h.1.0 h.1.1.0 (subst (λ (t : List ℕ). length t < 2 ^ 32) h.0 short)) ∙ (ap (sequence_read d.read 0 (2 ^ 64)) (sym h.0) ∙ again ms valid allowed short))

    pub same_set : (ns : List d.Meaning) → length (flat_map d.encoding (in_order d.encoding ms)) < 2 ^ 32 → set_read encoding_less d.read (flat_map d.encoding (in_order d.encoding ms)) ≡ Ok ns → ns ≡ in_order d.encoding ms
    same_set ns short e = done_injective ns (in_order d.encoding ms) (sym e ∙ set_of_read_back (encoding_of d) d.laws (in_order d.encoding ms) (lawful, is_element) valid_in_order (each_in_order d.encoding d.allowed ms allowed) short)

    -- a list that is read of these octets means the items
    pub list_means : {W : Type 0} (view : W → List d.Meaning) (low high : ℕ) (result : Result W ReadError) (contents : List ℕ) → contents ≡ flat_map d.encoding ms → IsOctets (flat_map d.encoding ms) → length (flat_map d.encoding ms) < 2 ^ 32
        → ReadsContents (list_der low high d view) contents result → IfOk result (λ v. view v ≡ ms)
    list_means view low high result contents same octets short answers =
        let there = subst (λ (t : List ℕ). ReadsContents (list_der low high d view) t result) same answers in
        Returns_IfOk view _ result _ ms there (λ ns e. same_list low high ns octets short e)

    pub set_means : {W : Type 0} (view : W → List d.Meaning) (result : Result W ReadError) (contents : List ℕ) → contents ≡ flat_map d.encoding (in_order d.encoding ms) → length (flat_map d.encoding (in_order d.encoding ms)) < 2 ^ 32
        → ReadsContents (set_der d view) contents result → IfOk result (λ v. view v ≡ in_order d.encoding ms)
    set_means view result contents same short answers =
        let there = subst (λ (t : List ℕ). ReadsContents (set_der d view) t result) same answers in
        Returns_IfOk view _ result _ (in_order d.encoding ms) there (λ ns e. same_set ns short e)

  -- the items are read from these octets
  pub list_made : d.lawful → d.is_element → {W : Type 0} (view : W → List d.Meaning) (low high : ℕ) → AllByRecursion d.allowed ms × IsInBounds low high (length ms) → (result : Result W ReadError) (contents : List ℕ) → contents ≡ flat_map d.encoding ms → length (flat_map d.encoding ms) < 2 ^ 32
      → ReadsContents (list_der low high d view) contents result → Returns view ((items_inside low high (encoding_of d)).runs_out (flat_map d.encoding ms)) result (Ok ms)
  list_made lawful is_element view low high allowed result contents same short answers =
      let there = subst (λ (t : List ℕ). ReadsContents (list_der low high d view) t result) same answers in
      subst (λ (r : Result (List d.Meaning) ReadError). Returns view ((items_inside low high (encoding_of d)).runs_out (flat_map d.encoding ms)) result r) (sequence_of_read_back low high (encoding_of d) d.laws ms (lawful, is_element) valid allowed short) there

  pub set_made : d.lawful → d.is_element → {W : Type 0} (view : W → List d.Meaning) → AllByRecursion d.allowed ms → (result : Result W ReadError) (contents : List ℕ) → contents ≡ flat_map d.encoding (in_order d.encoding ms) → length (flat_map d.encoding (in_order d.encoding ms)) < 2 ^ 32
      → ReadsContents (set_der d view) contents result → Returns view ((set_inside (encoding_of d)).runs_out (flat_map d.encoding (in_order d.encoding ms))) result (Ok (in_order d.encoding ms))
  set_made lawful is_element view allowed result contents same short answers =
      let there = subst (λ (t : List ℕ). ReadsContents (set_der d view) t result) same answers in
      subst (λ (r : Result (List d.Meaning) ReadError). Returns view ((set_inside (encoding_of d)).runs_out (flat_map d.encoding (in_order d.encoding ms))) result r) (set_of_read_back (encoding_of d) d.laws (in_order d.encoding ms) (lawful, is_element) valid_in_order (each_in_order d.encoding d.allowed ms allowed) short) there

-- a set is read of the octets of items in order
pub set_read_there : {V : Type 0} (d : Der V) (ms : List d.Meaning) {W : Type 0} (view : W → List d.Meaning) (result : Result W ReadError) (contents : List ℕ) → contents ≡ flat_map d.encoding (in_order d.encoding ms)
    → ReadsContents (set_der d view) contents result → ReadsContents (set_der d view) (flat_map d.encoding (in_order d.encoding ms)) result
set_read_there d ms view result contents same answers = subst (λ (t : List ℕ). ReadsContents (set_der d view) t result) same answers
