-- An item and a value whose type it defines. Fields need what both mean, but each of the two types states only its own
-- part.
use Rattle.std.specs.Prelude.{ℕ, ◌≡◌, ◌↔◌, List, [], ◌∷◌, Result, Ok, Err, Bool, true, false, if◌then◌else◌}
use Rattle.std.proofs.Common.{refl, ap, ◌∙◌}
use Rattle.asn1_core.specs.declared.tag.Tag.{Tag}
use Rattle.asn1_core.specs.declared.parser.Place.{Place}
use Rattle.asn1_core.specs.Tag.{tag_eq}
use Rattle.asn1_core.specs.Element.{Element, element_encoding, ◌>>=◌}
use Rattle.asn1_core.specs.ReadError.{ReadError}
use Rattle.asn1_core.specs.Writing.{IsElementOf}
use Rattle.asn1_core.specs.Reading.{expected, framed_element, whole}
use Rattle.asn1_core.specs.Der.{Der}
use Rattle.asn1_core.specs.DefinedBy.{DefinedBy, ByItem}
use Rattle.asn1.specs.DefinedReads.{element_read}
use Rattle.asn1.specs.Defined.{by_inside, defined_inside}

-- What an item means, and what a value means whose type the item defines.
pub record ItemAndValue (T V : Type 0) : Type 1 where
  pub item : Der T
  pub value : DefinedBy item.Meaning V

-- the part of the value
abbrev pub by_item : {T V : Type 0} → ItemAndValue T V → ByItem T V
by_item both = record { Item = both.item.Meaning; seen = both.item.meaning; means = both.value }

-- The result of a read, with its abstract value mapped by f.
abbrev pub seen_front : {M N : Type 0} → (M → N) → Result (M × List ℕ) ReadError → Result (N × List ℕ) ReadError
seen_front f (Ok x) = Ok (f x.0, x.1)
seen_front f (Err e) = Err e

abbrev pub seen_whole : {M N : Type 0} → (M → N) → Result M ReadError → Result N ReadError
seen_whole f (Ok m) = Ok (f m)
seen_whole f (Err e) = Err e

-- Two statements of what a type means agree: each abstract value of the first is mapped to one of the second.
pub record ItemAgrees {T : Type 0} (a b : Der T) : Type 0 where
  pub stands_for : a.Meaning → b.Meaning
  pub meaning : (v : T) → stands_for (a.meaning v) ≡ b.meaning v
  pub read : (t : List ℕ) → b.read t ≡ seen_front stands_for (a.read t)
  pub runs_out : (t : List ℕ) (places : List Place) → a.runs_out t places → b.runs_out t places
  pub encodings : (m : a.Meaning) (t : List ℕ) → a.encodings m t ↔ b.encodings (stands_for m) t
  pub closures : (m : a.Meaning) → b.closures (stands_for m) → a.closures m
  pub plain : a.plain → b.plain
  pub is_read : a.is_read → b.is_read

-- The same of a value that an item defines.
pub record ValueAgrees {T V : Type 0} (by : ByItem T V) (both : ItemAndValue T V) : Type 0 where
  pub stands_for : by.means.Meaning → both.value.Meaning
  pub meaning : (v : V) → stands_for (by.means.meaning v) ≡ both.value.meaning v
  pub item : (i : T) (m : by.means.Meaning) → by.seen i ≡ by.means.item m → both.item.meaning i ≡ both.value.item (stands_for m)
  pub read : (i : T) (t : List ℕ) → both.value.read (both.item.meaning i) t ≡ seen_front stands_for (by.means.read (by.seen i) t)
  pub runs_out : (i : T) (t : List ℕ) (places : List Place) → by.means.runs_out (by.seen i) t places → both.value.runs_out (both.item.meaning i) t places
  pub encodings : (m : by.means.Meaning) (t : List ℕ) → by.means.encodings m t ↔ both.value.encodings (stands_for m) t
  pub closures : (m : by.means.Meaning) → both.value.closures (stands_for m) → by.means.closures m
  pub valid : (m : by.means.Meaning) → by.means.valid m → both.value.valid (stands_for m)
  pub plain : by.means.plain → both.value.plain
  pub is_read : by.means.is_read → both.value.is_read

-- The type of an item, and the type that the item defines, agree with what is stated of both together.
abbrev pub Agrees : {T V : Type 0} → Der T → ByItem T V → ItemAndValue T V → Type 0
Agrees d by both = ItemAgrees d both.item × ValueAgrees by both

pub seen_front_id : {M : Type 0} (r : Result (M × List ℕ) ReadError) → r ≡ seen_front (λ m. m) r
seen_front_id (Ok x) = refl
seen_front_id (Err e) = refl

-- They agree if they state the same, word for word.
pub word_for_word : {T V : Type 0} (both : ItemAndValue T V) → Agrees both.item (by_item both) both
word_for_word both = (
  record {
    stands_for = λ m. m;
    meaning = λ v. refl;
    read = λ t. seen_front_id (both.item.read t);
    runs_out = λ t places out. out;
    encodings = λ m t. (λ h. h, λ h. h);
    closures = λ m h. h;
    plain = λ p. p;
    is_read = λ is. is;
  },
  record {
    stands_for = λ m. m;
    meaning = λ v. refl;
    item = λ i m e. e;
    read = λ i t. seen_front_id (both.value.read (both.item.meaning i) t);
    runs_out = λ i t places out. out;
    encodings = λ m t. (λ h. h, λ h. h);
    closures = λ m h. h;
    valid = λ m h. h;
    plain = λ p. p;
    is_read = λ is. is;
  },
)

-- ---- under an explicit tag

module _ {M N : Type 0} (f : M → N) (read : List ℕ → Result (M × List ℕ) ReadError) (read2 : List ℕ → Result (N × List ℕ) ReadError) (same : (t : List ℕ) → read2 t ≡ seen_front f (read t)) where
  whole_seen : (r : Result (M × List ℕ) ReadError) → whole (seen_front f r) ≡ seen_whole f (whole r)
  whole_seen (Ok (m, [])) = refl
  whole_seen (Ok (m, octet ∷ octets)) = refl
  whole_seen (Err e) = refl

  element_seen : (c : Result Element ReadError) → (c >>= λ e. whole (read2 (element_encoding e))) ≡ seen_whole f (c >>= λ e. whole (read (element_encoding e)))
  element_seen (Ok e) = ap whole (same (element_encoding e)) ∙ whole_seen (read (element_encoding e))
  element_seen (Err e) = refl

  seen_whole_bind : (r : Result M ReadError) (rest : List ℕ) → (seen_whole f r >>= λ m. Ok (m, rest)) ≡ seen_front f (r >>= λ m. Ok (m, rest))
  seen_whole_bind (Ok m) rest = refl
  seen_whole_bind (Err e) rest = refl

  seen_front_if : (b : Bool) (x : Result (M × List ℕ) ReadError) (e : ReadError) → (if b then seen_front f x else Err e) ≡ seen_front f (if b then x else Err e)
  seen_front_if true x e = refl
  seen_front_if false x e = refl

  expected_seen : (tag : Tag) (x : Element × List ℕ) → expected tag (element_read read2) x ≡ seen_front f (expected tag (element_read read) x)
  expected_seen tag x =
      let inner : element_read read2 x.0.content ≡ seen_whole f (element_read read x.0.content) = element_seen (whole (framed_element x.0.content)) in
      rw (inner, seen_whole_bind (element_read read x.0.content) x.1) (seen_front_if (tag_eq x.0.tag tag) _ _)

  tagged_seen : (tag : Tag) (r : Result (Element × List ℕ) ReadError) → (r >>= expected tag (element_read read2)) ≡ seen_front f (r >>= expected tag (element_read read))
  tagged_seen tag (Ok x) = expected_seen tag x
  tagged_seen tag (Err e) = refl

IsElementOf_weaker : (tag : Tag) (encodings texts2 : List ℕ → Type 0) → ((t : List ℕ) → encodings t → texts2 t) → (t : List ℕ) → IsElementOf tag encodings t → IsElementOf tag texts2 t
IsElementOf_weaker tag encodings texts2 law t h = record { content = h.content; is_content = law h.content h.is_content; is = h.is }

-- `Agrees` of a type under an explicit tag, if it holds of the type without the tag.
pub agrees_inside : {T V W : Type 0} (tag : Tag) (view : W → V) (d : Der T) (by : ByItem T V) (both : ItemAndValue T V) → Agrees d by both →
    Agrees d (by_inside tag view by) (record { item = both.item; value = defined_inside tag view both.value })
agrees_inside tag view d by both h =
    let k = h.1 in (
      h.0,
      record {
        stands_for = k.stands_for;
        meaning = λ w. k.meaning (view w);
        item = k.item;
        read = λ i t. tagged_seen k.stands_for (by.means.read (by.seen i)) (both.value.read (both.item.meaning i)) (k.read i) tag (framed_element t);
        runs_out = λ i t places out. (out.0, out.1, out.2, (out.3.0, out.3.1, k.runs_out i (element_encoding out.3.0) places out.3.2));
        encodings = λ m t. (IsElementOf_weaker tag _ _ (λ x. (k.encodings m x).0) t, IsElementOf_weaker tag _ _ (λ x. (k.encodings m x).1) t);
        closures = k.closures;
        valid = k.valid;
        plain = k.plain;
        is_read = k.is_read;
      },
    )
