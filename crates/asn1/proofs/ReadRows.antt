-- Two statements of what a row means that say the same of reading: so they do with one field more.
use Rattle.std.proofs.Common.{◌≡◌, ℕ, List, ◌⊎◌, Result, Ok, Err, refl, sym, ap, ◌∙◌, inl, inr}
use Rattle.asn1_core.specs.declared.parser.Place.{Place}
use Rattle.asn1_core.specs.Element.{◌>>=◌}
use Rattle.asn1_core.specs.ReadError.{ReadError}
use Rattle.asn1_core.specs.Reading.{Returns, IsErrorOf}
use Rattle.asn1_core.specs.Lemmas.Results.{done_injective}
use Rattle.asn1.specs.FieldReads.{field_out, others_out, field_read, item_read, behind_out}
use Rattle.asn1.specs.ItemsAndValues.{seen_front, seen_front_id as is_same}

bind_pair_ok : {K M : Type 0} (k l : K) (r : Result M ReadError) (n : M)
    → ◌≡◌ {A = Result (K × M) ReadError} (r >>= λ m. Ok (k, m)) (Ok (l, n)) → (r ≡ Ok n) × (k ≡ l)
bind_pair_ok {K} {M} k l (Ok m) n e =
    let same = done_injective (k, m) (l, n) e in
    (ap (λ (x : K × M). Ok x.1) same, ap (λ (x : K × M). x.0) same)
bind_pair_ok k l (Err f) n e = absurd cc

bind_pair_err : {K M : Type 0} (k : K) (r : Result M ReadError) (f : ReadError)
    → ◌≡◌ {A = Result (K × M) ReadError} (r >>= λ m. Ok (k, m)) (Err f) → r ≡ Err f
bind_pair_err k (Ok m) f e = absurd cc
bind_pair_err k (Err g) f e = cc

Err_ne_Ok : {A : Type 0} (f : ReadError) (x : A) → ◌≡◌ {A = Result A ReadError} (Err f) (Ok x) → ⊥
Err_ne_Ok f x e = absurd cc

Err_at_other_type : {A B : Type 0} (f g : ReadError) → ◌≡◌ {A = Result A ReadError} (Err f) (Err g) → ◌≡◌ {A = Result B ReadError} (Err f) (Err g)
Err_at_other_type f g e = cc

pub seen_front_id_read : {M : Type 0} (read : List ℕ → Result (M × List ℕ) ReadError) (t : List ℕ) → read t ≡ seen_front (λ m. m) (read t)
seen_front_id_read read t = is_same (read t)

-- a field, and those after it
module _ {U W K M N : Type 0} (first : W → K) (rest : W → U) (one : U → M) (other : U → N)
    (name : List ℕ) (read : List ℕ → Result (K × List ℕ) ReadError) (out : List ℕ → List Place → Type 0)
    (read1 : List ℕ → Result M ReadError) (out1 : List ℕ → List Place → Type 0)
    (read2 : List ℕ → Result N ReadError) (out2 : List ℕ → List Place → Type 0)
    (same : (t : List ℕ) (result : Result U ReadError) → Returns one (out1 t) result (read1 t) → Returns other (out2 t) result (read2 t)) where
  abbrev Out : (List ℕ → List Place → Type 0) → List ℕ → List Place → Type 0
  Out behind c places = field_out name out c places ⊎ others_out read behind c places

  IsErrorOf_field_read : (c : List ℕ) (x : K × List ℕ) (f : ReadError) → read c ≡ Ok x
      → Returns {V = U} other (out2 x.1) (Err f) (read2 x.1) → IsErrorOf (Out out2 c) (field_read name read read2 c) f
  IsErrorOf_field_read c x f e (inl q) = inl (rw (e, q) refl)
  IsErrorOf_field_read c x f e (inr o) = inr (o.0, inr (x, e, o.1))

  Returns_field_read : (c : List ℕ) (r : Result (K × List ℕ) ReadError) → read c ≡ r → (result : Result W ReadError)
      → Returns (λ w. (first w, one (rest w))) (Out out1 c) result (field_read name read read1 c)
      → Returns (λ w. (first w, other (rest w))) (Out out2 c) result (field_read name read read2 c)
  Returns_field_read c (Ok x) e (Ok w) h =
      let was = bind_pair_ok x.0 (first w) (read1 x.1) (one (rest w)) (rw e at h) in
      let is : read2 x.1 ≡ Ok (other (rest w)) = same x.1 (Ok (rest w)) was.0 in
      rw (e, is) (ap (λ (k : K). Ok (k, other (rest w))) was.1)
  Returns_field_read c (Ok x) e (Err f) (inl h) = IsErrorOf_field_read c x f e (same x.1 (Err f) (inl (bind_pair_err x.0 (read1 x.1) f (rw e at h))))
  Returns_field_read c r e (Err f) (inr (k, inl o)) = inr (k, inl o)
  Returns_field_read c r e (Err f) (inr (k, inr (x, is, o))) = IsErrorOf_field_read c x f is (same x.1 (Err f) (inr (k, o)))
  Returns_field_read c (Err g) e (Ok w) h = absurd cc
  Returns_field_read c (Err g) e (Err f) (inl h) = inl (rw e (Err_at_other_type _ f (rw e at h)))

  pub Returns_field_read_more : (c : List ℕ) (result : Result W ReadError)
      → Returns (λ w. (first w, one (rest w))) (Out out1 c) result (field_read name read read1 c)
      → Returns (λ w. (first w, other (rest w))) (Out out2 c) result (field_read name read read2 c)
  Returns_field_read_more c result h = Returns_field_read c (read c) refl result h

-- an item, which two statements map to what they say of it, and the fields after it
module _ {U W K I J M N : Type 0} (rest : W → U) (one : U → M) (other : U → N)
    (name : List ℕ) (read : List ℕ → Result (K × List ℕ) ReadError) (s1 : K → I) (s2 : K → J)
    (item1 : List ℕ → Result (I × List ℕ) ReadError) (item2 : List ℕ → Result (J × List ℕ) ReadError)
    (is1 : (t : List ℕ) → item1 t ≡ seen_front s1 (read t)) (is2 : (t : List ℕ) → item2 t ≡ seen_front s2 (read t))
    (item_out1 item_out2 : List ℕ → List Place → Type 0)
    (outs : (t : List ℕ) (places : List Place) → item_out1 t places → item_out2 t places)
    (read1 : I → List ℕ → Result M ReadError) (out1 : I → List ℕ → List Place → Type 0)
    (read2 : J → List ℕ → Result N ReadError) (out2 : J → List ℕ → List Place → Type 0)
    (same : (k : K) (t : List ℕ) (result : Result U ReadError)
    → Returns one (out1 (s1 k) t) result (read1 (s1 k) t) → Returns other (out2 (s2 k) t) result (read2 (s2 k) t)) where
  abbrev Out1 : List ℕ → List Place → Type 0
  Out1 c places = field_out name item_out1 c places ⊎ behind_out item1 out1 c places

  abbrev Out2 : List ℕ → List Place → Type 0
  Out2 c places = field_out name item_out2 c places ⊎ behind_out item2 out2 c places

  IsErrorOf_item_read : (c : List ℕ) (x : K × List ℕ) (f : ReadError) → item2 c ≡ Ok (s2 x.0, x.1)
      → Returns {V = U} other (out2 (s2 x.0) x.1) (Err f) (read2 (s2 x.0) x.1) → IsErrorOf (Out2 c) (item_read name item2 read2 c) f
  IsErrorOf_item_read c x f e (inl q) = inl (rw (e, q) refl)
  IsErrorOf_item_read c x f e (inr o) = inr (o.0, inr ((s2 x.0, x.1), e, o.1))

  seen_front_ok_is : (r : Result (K × List ℕ) ReadError) (y : I × List ℕ) → seen_front s1 r ≡ Ok y → (out : I → List ℕ → Type 0)
      → out y.0 y.1 → (x : K × List ℕ) × (r ≡ Ok x) × out (s1 x.0) x.1
  seen_front_ok_is (Ok x) y e out o = (x, refl, rw (← done_injective (s1 x.0, x.1) y e) at o)
  seen_front_ok_is (Err f) y e out o = absurd cc

  Returns_item_read : (c : List ℕ) (r : Result (K × List ℕ) ReadError) → item1 c ≡ seen_front s1 r → item2 c ≡ seen_front s2 r
      → (result : Result W ReadError) → Returns (λ w. one (rest w)) (Out1 c) result (item_read name item1 read1 c)
      → Returns (λ w. other (rest w)) (Out2 c) result (item_read name item2 read2 c)
  Returns_item_read c (Ok x) e e2 (Ok w) h = rw e2 (same x.0 x.1 (Ok (rest w)) (rw e at h))
  Returns_item_read c (Ok x) e e2 (Err f) (inl h) = IsErrorOf_item_read c x f e2 (same x.0 x.1 (Err f) (inl (rw e at h)))
  Returns_item_read c r e e2 (Err f) (inr (k, inl (inner, o, is))) = inr (k, inl (inner, outs c inner o, is))
  Returns_item_read c r e e2 (Err f) (inr (k, inr (y, is, o))) =
      let x = seen_front_ok_is r y (sym e ∙ is) (λ i t. out1 i t f.places) o in
      IsErrorOf_item_read c x.0 f (e2 ∙ ap (seen_front s2) x.1) (same x.0.0 x.0.1 (Err f) (inr (k, x.2)))
  Returns_item_read c (Err g) e e2 (Ok w) h = absurd (Err_ne_Ok _ _ (rw e at h))
  Returns_item_read c (Err g) e e2 (Err f) (inl h) = inl (rw e2 (Err_at_other_type _ f (rw e at h)))

  pub Returns_item_read_more : (c : List ℕ) (result : Result W ReadError)
      → Returns (λ w. one (rest w)) (Out1 c) result (item_read name item1 read1 c)
      → Returns (λ w. other (rest w)) (Out2 c) result (item_read name item2 read2 c)
  Returns_item_read_more c result h = Returns_item_read c (read c) (is1 c) (is2 c) result h
