-- Sets have the same octets exactly if they have the same multiset of encodings of elements.
use Rattle.std.proofs.Common.{◌≡◌, ◌∙◌, ℕ, List, [], ◌∷◌, map, Result, Ok, Err, refl, sym, ap, subst}
use Rattle.std.specs.Prelude.{◌↔◌, IfOk}
use Rattle.std.proofs.lemmas.Simd.{map-map}
use Rattle.asn1_core.specs.Element.{element, element_encoding}
use Rattle.asn1_core.specs.Reading.{Fits, IsOneElement}
use Rattle.std.specs.List.{concat, AllByRecursion}
use Rattle.asn1_core.specs.Listing.{set_tag, listing, IsElementEncoding, SameEncodings, occurrences}
use Rattle.asn1_core.specs.Lemmas.Contents.{Fits_IsReadable}
use Rattle.asn1_core.specs.Lemmas.Cuts.{element_encoding_content_injective}
use Rattle.asn1_core.specs.Lemmas.Items.{AllByRecursion_weaker}
use Rattle.asn1_core.specs.Lemmas.Listing.{IsListing_listing, one_listing}
use Rattle.asn1_core.specs.Lemmas.Options.{IsOneElement_not_empty}
use Rattle.asn1_core.specs.Der.{Der}
use Rattle.asn1_core.proofs.Listings.{listings_of_elements_tell_multisets}
use Rattle.asn1.specs.MadeLists.{in_order}
use Rattle.asn1.specs.TypeLaws.{AreElements, OrdersTellMultisets, SetsTellMultisets, SetsTellValues, ValuesAreElements}
use Rattle.asn1.proofs.MadeLists.{each_in_order, map_in_order}

each_map : {M : Type 0} (P : List ℕ → Type 0) (encoding : M → List ℕ) (ms : List M) → AllByRecursion (λ m. P (encoding m)) ms → AllByRecursion P (map encoding ms)
each_map P encoding [] h = tt
each_map P encoding (m ∷ ms) h = (h.0, each_map P encoding ms h.1)

-- ---- the encodings of sets

module _ {V : Type 0} (d : Der V) where
  abbrev set_text : List d.Meaning → List ℕ
  set_text ms = element_encoding (element set_tag (concat (listing (map d.encoding ms))))

  abbrev AreOneElement : List d.Meaning → Type 0
  AreOneElement = AllByRecursion (λ m. IsOneElement (d.encoding m))

  elements_tell : (ms ns : List d.Meaning) → AreOneElement ms → AreOneElement ns → (set_text ms ≡ set_text ns) ↔ SameEncodings (map d.encoding ms) (map d.encoding ns)
  elements_tell ms ns p q =
      let es = map d.encoding ms in
      let fs = map d.encoding ns in
      let same = listings_of_elements_tell_multisets es fs (listing es) (listing fs) (each_map IsOneElement d.encoding ms p) (each_map IsOneElement d.encoding ns q) (IsListing_listing es) (IsListing_listing fs) in (
        λ e. same.0 (element_encoding_content_injective set_tag (concat (listing es)) (concat (listing fs)) e),
        λ s. ap (λ (c : List ℕ). element_encoding (element set_tag c)) (same.1 s),
      )

  are_one_element : (ms : List d.Meaning) → AreElements d ms → AreOneElement ms
  are_one_element = AllByRecursion_weaker (λ m. IsElementEncoding (d.encoding m)) (λ m. IsOneElement (d.encoding m)) (λ m is. record { element = is.0; is = is.2; readable = is.1.tag })

  pub sets_tell_multisets : SetsTellMultisets d set_text
  sets_tell_multisets ms ns p q = elements_tell ms ns (are_one_element ms p) (are_one_element ns q)

  one_element : d.lawful → d.is_element → (m : d.Meaning) → d.valid m → IsOneElement (d.encoding m)
  one_element lawful is_element m v = IsOneElement_not_empty (d.laws.nothing_or_element m lawful v) (d.laws.not_empty m lawful is_element v)

  pub sets_tell_values : SetsTellValues d set_text
  sets_tell_values lawful is_element ms ns v w =
      let each = AllByRecursion_weaker d.valid (λ m. IsOneElement (d.encoding m)) (one_element lawful is_element) in
      elements_tell ms ns (each ms v) (each ns w)

  pub values_are_elements : ValuesAreElements d
  values_are_elements lawful is_element m v fits =
      let one = one_element lawful is_element m v in
      (one.element, Fits_IsReadable one.element one.readable (subst Fits one.is fits), one.is)

-- ---- the order of items that are made a set

module _ {V : Type 0} (d : Der V) where
  -- values with the same encodings are the same
  map_one_value : d.is_read → d.lawful → (ms ns : List d.Meaning) → AllByRecursion d.valid ms → AllByRecursion d.valid ns → map d.encoding ms ≡ map d.encoding ns → ms ≡ ns
  map_one_value is lawful [] [] v w e = refl
  map_one_value is lawful [] (n ∷ ns) v w e = absurd cc
  map_one_value is lawful (m ∷ ms) [] v w e = absurd cc
  map_one_value is lawful (m ∷ ms) (n ∷ ns) v w e =
      let first : d.encoding m ≡ d.encoding n = cc in
      let rest : map d.encoding ms ≡ map d.encoding ns = cc in
      ap (λ (k : d.Meaning). k ∷ ms) (d.laws.one_value is m n lawful v.0 w.0 first) ∙ ap (λ (ks : List d.Meaning). n ∷ ks) (map_one_value is lawful ms ns v.1 w.1 rest)

  pub orders_tell_multisets : OrdersTellMultisets d
  orders_tell_multisets is lawful ms ns valid others_valid =
      let a = IsListing_listing (map d.encoding ms) in
      let b = IsListing_listing (map d.encoding ns) in
      let listed = map_in_order d.encoding ms in
      let others = map_in_order d.encoding ns in (
        λ e t. a.same t ∙ (ap (occurrences t) (sym listed ∙ (ap (map d.encoding) e ∙ others)) ∙ sym (b.same t)),
        λ same. map_one_value is lawful _ _ (each_in_order d.encoding d.valid ms valid) (each_in_order d.encoding d.valid ns others_valid)
            (listed ∙ (one_listing _ _ _ _ a b same ∙ sym others)),
      )

  -- items are the same in order exactly if they have the same encodings
  pub in_order_tell : d.is_read → d.lawful → (vs ws : List V) → AllByRecursion d.valid (map d.meaning vs) → AllByRecursion d.valid (map d.meaning ws)
      → (in_order d.encoding (map d.meaning vs) ≡ in_order d.encoding (map d.meaning ws)) ↔ SameEncodings (map (λ v. d.encoding (d.meaning v)) vs) (map (λ v. d.encoding (d.meaning v)) ws)
  in_order_tell is lawful vs ws v w = rw (map-map d.encoding d.meaning vs, map-map d.encoding d.meaning ws) at (orders_tell_multisets is lawful (map d.meaning vs) (map d.meaning ws) v w)

  -- a set that is made is the set of other items exactly if they have the same encodings
  pub made_tells : {W E : Type 0} (view : W → List d.Meaning) → d.is_read → d.lawful → (vs ws : List V) → AllByRecursion d.valid (map d.meaning vs) → AllByRecursion d.valid (map d.meaning ws)
      → (result : Result W E) → IfOk result (λ set. view set ≡ in_order d.encoding (map d.meaning vs))
      → IfOk result (λ set. (view set ≡ in_order d.encoding (map d.meaning ws)) ↔ SameEncodings (map (λ v. d.encoding (d.meaning v)) vs) (map (λ v. d.encoding (d.meaning v)) ws))
  made_tells view is lawful vs ws v w (Err f) means = tt
  made_tells view is lawful vs ws v w (Ok set) means =
      let tell = in_order_tell is lawful vs ws v w in
      (λ e. tell.0 (sym means ∙ e), λ same. means ∙ tell.1 same)
