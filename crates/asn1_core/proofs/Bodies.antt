-- What follows from what is stated of a body.
use Rattle.std.proofs.Common.{◌≡◌, ⊎_elim, inl, ◌≤◌, ◌+◌, ◌-◌, ◌++◌, [], ◌∷◌, length, take, drop, ℕ, ◌<◌, ◌^◌, List, refl, sym, ◌∙◌, ap, append_assoc, arith, length-append, Result, Ok, Err, OnOk, OnErr, IfErr, IsErrAnd, inr, subst, Option, Some, None}
use Rattle.std.specs.Prelude.{SomeIff}
use Rattle.std.proofs.lemmas.Result.{on_ok_weaker}
use Rattle.asn1_core.specs.Writing.{KnowsLength, GivesLength, IsElementOf, full_count, LeavesPrefix, MayAppend, Announces, Appended, FailsAs}
use Rattle.std.proofs.lemmas.Grind.{common_steps}
use Rattle.std.specs.Fn.{FnOnceReturnsAtMut, Once}
use Rattle.std.specs.Borrow.{MutBor}
use Rattle.asn1_core.specs.Buffer.{Buffer, Appends, KeepsPrefix}
use Rattle.asn1_core.specs.declared.tag.Tag.{Tag}
use Rattle.asn1_core.specs.Tag.{identifier_octets}
use Rattle.asn1_core.specs.Length.{length_octets}
use Rattle.std.proofs.lemmas.Bool.{cases_lt}
use Rattle.asn1_core.specs.Element.{element, element_encoding}
use Rattle.asn1_core.specs.Reading.{Fits}
use Rattle.asn1_core.specs.Der.{Der}
use Rattle.asn1_core.specs.Lemmas.Lengths.{length_octets_low, length_octets_high, length_digits_of_le_4}
use Rattle.asn1_core.specs.Lemmas.Numbers.{length_number_octets_le_5}
use Rattle.asn1_core.specs.Lemmas.Tags.{identifier_octets_low, identifier_octets_long}
use Rattle.asn1_core.specs.declared.writer.WriteError.{WriteError}
use Rattle.std.proofs.lemmas.Option.{none-some}

pub KeepsPrefix_append : {a b : List ℕ} (t : List ℕ) → b ≡ a ++ t → KeepsPrefix a b
KeepsPrefix_append {a} {b} t e = let d : drop (length a) b ≡ t = grind (arith, common_steps) in record { joined = e ∙ ap (λ xs. a ++ xs) (sym d) }

-- two steps that each keep the prefix keep it together
pub KeepsPrefix_trans : {a b c : List ℕ} → KeepsPrefix a b → KeepsPrefix b c → KeepsPrefix a c
KeepsPrefix_trans {a} {b} {c} h k = KeepsPrefix_append (drop (length a) b ++ drop (length b) c) (k.joined ∙ ap (λ xs. xs ++ drop (length b) c) h.joined ∙ append_assoc a (drop (length a) b) (drop (length b) c))

take_prefix : (n : ℕ) (xs ys : List ℕ) → n ≡ length xs → take n (xs ++ ys) ≡ xs
take_prefix n xs ys e = grind (arith, common_steps)

drop_prefix : (n : ℕ) (xs ys : List ℕ) → n ≡ length xs → drop n (xs ++ ys) ≡ ys
drop_prefix n xs ys e = grind (arith, common_steps)

-- the length octets replaced the octet that was kept for them
pub patched_is : (old b1 b2 b3 b4 t : List ℕ) (tag : Tag) (start : ℕ) → b1 ≡ old ++ identifier_octets tag → b2 ≡ b1 ++ 0 ∷ [] → start ≡ length b2 → b3 ≡ b2 ++ t → b4 ≡ take (start - 1) b3 ++ length_octets (length b3 - start) ++ drop start b3 → b4 ≡ old ++ element_encoding (element tag t)
unfolding element_encoding
patched_is old b1 b2 b3 b4 t tag start e1 e2 s e3 e4 =
    let k : length b2 ≡ length b1 + 1 = grind (arith, common_steps) in
    let long : length b3 ≡ length b2 + length t = grind (arith, common_steps) in
    let split : b3 ≡ b1 ++ (0 ∷ t) = grind (arith, common_steps) in
    let f : take (start - 1) b3 ≡ b1 = rw split (take_prefix (start - 1) b1 (0 ∷ t) (omega arith)) in
    let d : drop start b3 ≡ t = rw e3 (drop_prefix start b2 t s) in
    let l : length b3 - start ≡ length t = omega arith in
    grind (arith, common_steps)

-- the length octets are already before the contents octets
pub announced_is : (old b1 b2 b3 t : List ℕ) (tag : Tag) (n : ℕ) → b1 ≡ old ++ identifier_octets tag → b2 ≡ b1 ++ length_octets n → b3 ≡ b2 ++ t → length t ≡ n → b3 ≡ old ++ element_encoding (element tag t)
unfolding element_encoding
announced_is old b1 b2 b3 t tag n e1 e2 e3 l = grind (arith, common_steps)

pub OnErr_any : {T E P : Type 0} (r : Result T E) → P → OnErr r P
OnErr_any (Ok x) p = tt
OnErr_any (Err e) p = p

module _ {F E : Type 0} (calls : Once F (MutBor Buffer × Unit {0}) (Result (Unit {0}) E × (MutBor Buffer × Unit {0}))) (body : F) where
  -- a call, by the buffer before and after it
  pub call_at : (p q : MutBor Buffer) (r : Result (Unit {0}) E) → calls.post body (p, tt) (r, (q, tt)) → FnOnceReturnsAtMut calls body p.now r q.now
  call_at p q r h = record { shown = p; shows = refl; left = q; met = h; leaves = refl }

  -- with an announced length
  module _ (old b1 : List ℕ) (before after : Buffer) (tag : Tag) (n : ℕ) (front : LeavesPrefix calls body) (announced : (t : List ℕ) → MayAppend calls body t → length t ≡ n) (e1 : b1 ≡ old ++ identifier_octets tag) (e2 : before.bytes ≡ b1 ++ length_octets n) where
    pub announced_ok : (r : Result (Unit {0}) E) → FnOnceReturnsAtMut calls body before r after → OnOk r (Appended calls body tag old after.bytes)
    announced_ok (Err e) h = tt
    announced_ok (Ok u) h =
        let k = front _ _ _ h in
        let t = drop (length before.bytes) after.bytes in
        let m : MayAppend calls body t = record { old = before; new = after; called = h; joined = k.joined } in
        record { content = t; allowed = m; joined = announced_is old b1 before.bytes after.bytes t tag n e1 e2 k.joined (announced t m) }

    pub announced_err : (r : Result (Unit {0}) E) → FnOnceReturnsAtMut calls body before r after → OnErr r (KeepsPrefix old after.bytes)
    announced_err r h = OnErr_any r (KeepsPrefix_trans (KeepsPrefix_append (identifier_octets tag) e1) (KeepsPrefix_trans (KeepsPrefix_append (length_octets n) e2) (front _ _ _ h)))

  pub FailsAs_call_err : (gives : WriteError → E → Type 0) (before after : Buffer) (r : Result (Unit {0}) E) → FnOnceReturnsAtMut calls body before r after → IfErr r (FailsAs calls body gives)
  FailsAs_call_err gives before after (Ok u) h = tt
  FailsAs_call_err gives before after (Err e) h = inr (record { old = before; new = after; called = h })

  -- the exit of a `?` on the body's result
  pub FailsAs_result_err : (gives : WriteError → E → Type 0) (before after : Buffer) (r s : Result (Unit {0}) E) (e : E) → s ≡ Err e → FnOnceReturnsAtMut calls body before s after → IsErrAnd r (λ x. x ≡ e) → IfErr r (FailsAs calls body gives)
  FailsAs_result_err gives before after (Ok u) s e i h a = tt
  FailsAs_result_err gives before after (Err x) s e i h a = inr (record { old = before; new = after; called = rw (i, ← a) at h })

  -- if the length is patched
  pub patched_ok : (old b1 : List ℕ) (before after : Buffer) (b4 : List ℕ) (tag : Tag) (start : ℕ) (r : Result (Unit {0}) E) → LeavesPrefix calls body → b1 ≡ old ++ identifier_octets tag → before.bytes ≡ b1 ++ 0 ∷ [] → start ≡ length before.bytes → r ≡ Ok tt → FnOnceReturnsAtMut calls body before r after → b4 ≡ take (start - 1) after.bytes ++ length_octets (length after.bytes - start) ++ drop start after.bytes → Appended calls body tag old b4
  patched_ok old b1 before after b4 tag start r front e1 e2 s i h e4 =
      let k = front _ _ _ h in
      let t = drop (length before.bytes) after.bytes in
      record { content = t; allowed = record { old = before; new = after; called = rw i at h; joined = k.joined }; joined = patched_is old b1 before.bytes after.bytes b4 t tag start e1 e2 s k.joined e4 }

append_cancels_left : (xs ys zs : List ℕ) → xs ++ ys ≡ xs ++ zs → ys ≡ zs
append_cancels_left [] ys zs e = e
append_cancels_left (x ∷ xs) ys zs e = append_cancels_left xs ys zs (cc)

module _ {F E : Type 0} (calls : Once F (MutBor Buffer × Unit {0}) (Result (Unit {0}) E × (MutBor Buffer × Unit {0}))) (body : F) (encodings : List ℕ → Type 0) (appends : (old new : Buffer) → FnOnceReturnsAtMut calls body old (Ok tt) new → Appends encodings old.bytes new.bytes) where
  -- what the body may append is one of `texts`
  pub may_append_is : (t : List ℕ) → MayAppend calls body t → encodings t
  may_append_is t m =
      let a = appends m.old m.new m.called in
      subst encodings (append_cancels_left m.old.bytes a.encoding t (sym a.joined ∙ m.joined)) a.is_one

  pub KnowsLength_Announces : (known : Option ℕ) → KnowsLength encodings known → Announces calls body known
  KnowsLength_Announces None k = tt
  KnowsLength_Announces (Some n) k = λ t m. k t (may_append_is t m)

  pub Appended_IsElementOf : (r : Result (Unit {0}) E) {tag tag' : Tag} (old new : List ℕ) → tag ≡ tag' → OnOk r (Appended calls body tag old new) → OnOk r (Appends (IsElementOf tag' encodings) old new)
  Appended_IsElementOf r {tag} {tag'} old new e h = on_ok_weaker r (λ a. record { encoding = element_encoding (element tag a.content); is_one = record { content = a.content; is_content = may_append_is a.content a.allowed; is = ap (λ (x : Tag). element_encoding (element x a.content)) e }; joined = a.joined }) h

module _ {F E : Type 0} (calls : Once F (MutBor Buffer × Unit {0}) (Result (Unit {0}) E × (MutBor Buffer × Unit {0}))) (body : F) (content : List ℕ) (appends : (old new : Buffer) → FnOnceReturnsAtMut calls body old (Ok tt) new → Appends (λ t. t ≡ content) old.bytes new.bytes) where
  -- a body that may append only these contents octets
  pub Appended_one_encoding : (r : Result (Unit {0}) E) (tag : Tag) (old new : List ℕ) → OnOk r (Appended calls body tag old new) → OnOk r (Appends (λ t. t ≡ element_encoding (element tag content)) old new)
  Appended_one_encoding r tag old new h = on_ok_weaker r (λ a. record { encoding = element_encoding (element tag content); is_one = refl; joined = a.joined ∙ ap (λ t. old ++ element_encoding (element tag t)) (may_append_is calls body (λ t. t ≡ content) appends a.content a.allowed) }) h

-- what was appended to an empty buffer
pub Appends_to_nil : (encodings : List ℕ → Type 0) (old new all : List ℕ) → old ≡ [] → new ≡ all → Appends encodings old new → encodings all
Appends_to_nil encodings old new all e f a = subst encodings (sym (subst (λ xs. new ≡ xs ++ a.encoding) e a.joined) ∙ f) a.is_one

-- the length of an element, by the number of its contents octets
pub length_element : (tag : Tag) (content : List ℕ) → length (element_encoding (element tag content)) ≡ full_count tag (length content)
unfolding element_encoding full_count
length_element tag content = omega (arith, length-append (identifier_octets tag) (length_octets (length content) ++ content), length-append (length_octets (length content)) content)

pub KnowsLength_IsElementOf : (encodings : List ℕ → Type 0) {tag tag' : Tag} (n : ℕ) → tag ≡ tag' → ((t : List ℕ) → encodings t → length t ≡ n) → (P : Type 0) (r : Option ℕ) → SomeIff r P (full_count tag n) → KnowsLength (IsElementOf tag' encodings) r
KnowsLength_IsElementOf encodings n same known P None h = tt
KnowsLength_IsElementOf encodings {tag} {tag'} n same known P (Some m) h = λ t e. ap length e.is ∙ (length_element tag' e.content ∙ (ap (full_count tag') (known e.content e.is_content) ∙ (ap (λ (x : Tag). full_count x n) (sym same) ∙ sym h.1)))

-- the same, if the number of contents octets isn't known, and if it is
shorter : (encodings : List ℕ → Type 0) (tag : Tag) (t : List ℕ) (e : IsElementOf tag encodings t) → length t < 2 ^ 64 → length e.content < 2 ^ 64
unfolding full_count
shorter encodings tag t e small = omega (arith, ap length e.is ∙ length_element tag e.content)

pub GivesLength_unknown_element : (has : Type 0) (encodings : List ℕ → Type 0) (tag : Tag) → GivesLength has encodings None → GivesLength has (IsElementOf tag encodings) None
GivesLength_unknown_element has encodings tag g = record { right = tt; told = λ h t e small. absurd (none-some _ (g.told h e.content e.is_content (shorter encodings tag t e small))) }

pub GivesLength_IsElementOf : (has : Type 0) (encodings : List ℕ → Type 0) {tag tag' : Tag} (n : ℕ) → tag ≡ tag' → GivesLength has encodings (Some n) → (r : Option ℕ) → SomeIff r (full_count tag n < 2 ^ 64) (full_count tag n) → GivesLength has (IsElementOf tag' encodings) r
GivesLength_IsElementOf has encodings {tag} {tag'} n same g None h =
    record { right = tt; told = λ k t e small. absurd (h (subst (λ m. m < 2 ^ 64) (ap length e.is ∙ (length_element tag' e.content ∙ (ap (full_count tag') (g.right e.content e.is_content) ∙ ap (λ (x : Tag). full_count x n) (sym same)))) small)) }
GivesLength_IsElementOf has encodings {tag} {tag'} n same g (Some m) h =
    let right = KnowsLength_IsElementOf encodings n same g.right (full_count tag n < 2 ^ 64) (Some m) h in
    record { right = right; told = λ k t e small. ap Some (sym (right t e)) }

-- the same for given contents octets, if the count fits
pub Some_length_element_encoding : (P : Type 0) (tag : Tag) (content : List ℕ) (r : Option ℕ) → SomeIff r P (full_count tag (length content)) → P → r ≡ Some (length (element_encoding (element tag content)))
Some_length_element_encoding P tag content None h p = absurd (h p)
Some_length_element_encoding P tag content (Some m) h p = let e : m ≡ length (element_encoding (element tag content)) = h.1 ∙ sym (length_element tag content) in rw e refl

-- the length of the only encoding
pub GivesLength_one_encoding : (has : Type 0) (octets : List ℕ) (r : Option ℕ) → r ≡ Some (length octets) → GivesLength has (λ t. t ≡ octets) r
GivesLength_one_encoding has octets r e = record { right = rw e (λ t same. ap length same); told = λ k t same small. e ∙ ap (λ u. Some (length u)) (sym same) }

-- an encoding that can be read has fewer than 2^64 octets
few_identifier_octets : (tag : Tag) → tag.value < 2 ^ 32 → length (identifier_octets tag) ≤ 6
few_identifier_octets tag small = ⊎_elim
    (λ (l : tag.value < 31). rw (identifier_octets_low tag (omega arith)) (omega arith))
    (λ (l : 31 ≤ tag.value). rw (identifier_octets_long tag l) (omega (arith, length_number_octets_le_5 tag.value small))) (cases_lt tag.value 31)

few_length_octets : (n : ℕ) → n < 2 ^ 32 → length (length_octets n) ≤ 5
few_length_octets n small = ⊎_elim
    (λ (l : n < 128). rw (length_octets_low n l) (omega arith))
    (λ (l : 128 ≤ n). rw (length_octets_high n l) (omega (arith, length_digits_of_le_4 n small))) (cases_lt n 128)

pub Fits_length : (t : List ℕ) → Fits t → length t < 2 ^ 64
unfolding full_count
Fits_length t (inl none) = omega (arith, ap length none)
Fits_length t (inr (e, is, same)) =
    omega (arith, ap length same ∙ length_element e.tag e.content, is.content, few_identifier_octets e.tag is.tag, few_length_octets (length e.content) is.content)

-- so its length is known
pub GivesLength_exact : {V : Type 0} (d : Der V) (has : Type 0) (m : d.Meaning) (known : Option ℕ) → GivesLength has (d.encodings m) known → has → d.plain → d.valid m → Fits (d.encoding m) → known ≡ Some (length (d.encoding m))
GivesLength_exact d has m known gives h plain valid fits = gives.told h (d.encoding m) (d.laws.has_encoding plain m valid) (Fits_length (d.encoding m) fits)

-- from what a body states at Ok and at Err
pub KeepsPrefix_result : {E : Type 0} (r : Result (Unit {0}) E) (t old new : List ℕ) → OnOk r (new ≡ old ++ t) → OnErr r (KeepsPrefix old new) → KeepsPrefix old new
KeepsPrefix_result (Ok u) t old new h k = KeepsPrefix_append t h
KeepsPrefix_result (Err e) t old new h k = k
