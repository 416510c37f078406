-- Integers of any length: only contents octets are read, and all of them are.
use Rattle.std.proofs.Common.{◌≡◌, ℕ, ◌<◌, ◌≤◌, Bool, true, false, if◌then◌else◌, leb, ltb, List, ◌++◌, length, get_or, Result, Ok, Err, IfErr, refl, sym, ap, subst, ◌∙◌, inl, inr, ⊎_elim, ◌↔◌, arith}
use Rattle.std.specs.Prelude.{ℤ, pos, ◌≤ℤ◌, ◌<ℤ◌, int_lt, OnOk}
use Rattle.std.proofs.lemmas.Int.{ints, by_lt_z}
use Rattle.std.proofs.lemmas.Bool.{cases_Bool, cases_lt, both_ways, lt-leb, le-leb, lt-ltb, ltb-true}
use Rattle.asn1_core.specs.declared.parser.ParseErrorKind.TheVariants.{InvalidValue, AllocationError}
use Rattle.asn1_core.specs.declared.parser.Place.{Place}
use Rattle.asn1_core.specs.Buffer.{Appends}
use Rattle.asn1_core.specs.Reading.{IsErrorOf}
use Rattle.asn1_core.specs.Boxed.{owned_out}
use Rattle.asn1_core.specs.Base256.{IsOctets, signed_number}
use Rattle.asn1_core.specs.ReadError.{ReadError, read_error, IsOfInput}
use Rattle.asn1_core.specs.Integer.{is_minimal, integer_content, read_integer}
use Rattle.asn1_core.specs.Lemmas.Texts.{IsOctets_from_reads}
use Rattle.asn1_core.specs.Lemmas.Results.{done_injective, bind_ok}
use Rattle.asn1_core.specs.Lemmas.Faults.{bind_errors, missed_errors}
use Rattle.asn1_core.specs.Lemmas.Integers.{integer_content_only, is_minimal_integer_content, signed_number_integer_content, is_minimal_IsIntegerContent, IsIntegerContent_is_minimal, read_integer_ok, read_integer_is, signed_number_low, signed_number_high, integer_errors}
use Rattle.asn1_values.specs.Big.{IsSigned, IsUnsigned, IsSignedForm, IsUnsignedForm, not_negative, read_unsigned}
use Rattle.asn1_core.specs.Lemmas.Facts.{get_or_IsOctets}

pub signed_consumes : (c : List ℕ) (m : ℤ) → IsOctets c → read_integer c ≡ Ok m → (c ≡ integer_content m) × Unit {0}
signed_consumes c m is e =
    let p = read_integer_is c m e in
    (integer_content_only c is p.0 ∙ ap integer_content p.1, tt)

pub signed_read_back : (m : ℤ) → Unit {0} → read_integer (integer_content m) ≡ Ok m
signed_read_back m v = read_integer_ok (integer_content m) (is_minimal_integer_content m) ∙ ap Ok (signed_number_integer_content m)

not_negative_ok : (z : ℤ) → pos 0 ≤ℤ z → not_negative z ≡ Ok z
not_negative_ok z h =
    let test : int_lt z (pos 0) ≡ false = grind (arith, ints) in
    rw test refl

not_negative_err : (z : ℤ) → z <ℤ pos 0 → not_negative z ≡ Err (read_error InvalidValue)
not_negative_err z h =
    let test : int_lt z (pos 0) ≡ true = grind (arith, ints) in
    rw test refl

not_negative_ok_is : (b : Bool) (z m : ℤ) → (if b then Err (read_error InvalidValue) else Ok z) ≡ Ok m → (b ≡ false) × (z ≡ m)
not_negative_ok_is true z m e = absurd cc
not_negative_ok_is false z m e = (refl, done_injective z m e)

pub unsigned_consumes : (c : List ℕ) (m : ℤ) → IsOctets c → read_unsigned c ≡ Ok m → (c ≡ integer_content m) × (pos 0 ≤ℤ m)
unfolding read_unsigned
unsigned_consumes c m is e =
    let p = bind_ok (read_integer c) not_negative m e in
    let q = not_negative_ok_is (int_lt p.0 (pos 0)) p.0 m p.2 in
    let test = q.0 in
    let above : pos 0 ≤ℤ p.0 = omega (arith, ints) in
    ((signed_consumes c p.0 is p.1).0 ∙ ap integer_content q.1, subst (λ (x : ℤ). pos 0 ≤ℤ x) q.1 above)

pub unsigned_read_back : (m : ℤ) → pos 0 ≤ℤ m → read_unsigned (integer_content m) ≡ Ok m
unfolding read_unsigned
unsigned_read_back m v = rw (signed_read_back m tt) (not_negative_ok m v)

pub unsigned_errors : (c : List ℕ) → IfErr (read_unsigned c) IsOfInput
unfolding read_unsigned
unsigned_errors c = bind_errors (read_integer c) not_negative (integer_errors c) (λ z. missed_errors (int_lt z (pos 0)) InvalidValue (Ok z) (λ e. cc) tt)

-- ---- octets of Rust values

pub is_minimal_IsSigned : (c : List ℕ) → IsOctets c → is_minimal c ≡ true → IsSigned c
is_minimal_IsSigned c is e = is_minimal_IsIntegerContent c is e

pub IsSigned_is_minimal : (c : List ℕ) → IsSigned c → is_minimal c ≡ true
IsSigned_is_minimal c h = IsIntegerContent_is_minimal c (signed_number c) h

pub read_signed_ok : (c : List ℕ) → IsSigned c → read_integer c ≡ Ok (signed_number c)
read_signed_ok c h = read_integer_ok c (IsSigned_is_minimal c h)

pub read_signed_err : (c : List ℕ) → IsOctets c → (IsSigned c → ⊥) → read_integer c ≡ Err (read_error InvalidValue)
unfolding read_integer
read_signed_err c is none =
    elim (cases_Bool (is_minimal c)) [
      | inl e ↦ absurd (none (is_minimal_IsSigned c is e))
      | inr e ↦ rw e refl
    ]

pub read_unsigned_ok : (c : List ℕ) → IsUnsigned c → read_unsigned c ≡ Ok (signed_number c)
unfolding read_unsigned
read_unsigned_ok c h = rw (read_signed_ok c h.0) (not_negative_ok (signed_number c) h.1)

pub read_unsigned_err : (c : List ℕ) → IsOctets c → (IsUnsigned c → ⊥) → read_unsigned c ≡ Err (read_error InvalidValue)
unfolding read_unsigned
read_unsigned_err c is none =
    elim (cases_Bool (is_minimal c)) [
      | inl e ↦
          let signed = is_minimal_IsSigned c is e in
          let under : signed_number c <ℤ pos 0 = by_lt_z (signed_number c) (pos 0) (λ h. h) (λ h. absurd (none (signed, h))) in
          rw (read_integer_ok c e) (not_negative_err (signed_number c) under)
      | inr e ↦ rw (read_signed_err c is (λ h. both_ways (is_minimal c) e (IsSigned_is_minimal c h))) refl
    ]

-- the top bit is the sign
pub signed_number_not_negative : (c : List ℕ) → get_or c 0 0 < 128 → pos 0 ≤ℤ signed_number c
signed_number_not_negative c h = rw (signed_number_low c h) (omega (arith, ints))

pub signed_number_negative : (c : List ℕ) → IsOctets c → 128 ≤ get_or c 0 0 → signed_number c <ℤ pos 0
signed_number_negative c is h = rw (signed_number_high c is h) (omega (arith, ints))

-- the contents octets of the number are these octets
pub IsSigned_integer_content : (c : List ℕ) → IsSigned c → c ≡ integer_content (signed_number c)
IsSigned_integer_content c h = integer_content_only c h.octets (IsSigned_is_minimal c h)

-- ---- the form of a Rust value's octets

pub IsSignedForm_IsSigned : (c : List ℕ) → IsSignedForm c → IsSigned c
IsSignedForm_IsSigned c h = is_minimal_IsSigned c (IsOctets_from_reads c h.1) h.0

pub IsUnsignedForm_IsUnsigned : (c : List ℕ) → IsUnsignedForm c → IsUnsigned c
IsUnsignedForm_IsUnsigned c h = (IsSignedForm_IsSigned c h.0, signed_number_not_negative c h.1)

pub IsSigned_IsSignedForm : (c : List ℕ) → IsSigned c → IsSignedForm c
IsSigned_IsSignedForm c h = (IsSigned_is_minimal c h, get_or_IsOctets c h.octets)

pub IsUnsigned_IsUnsignedForm : (c : List ℕ) → IsUnsigned c → IsUnsignedForm c
IsUnsigned_IsUnsignedForm c h =
    (IsSigned_IsSignedForm c h.0, ⊎_elim (λ (low : get_or c 0 0 < 128). low) (λ (high : 128 ≤ get_or c 0 0). let z = signed_number_negative c h.0.octets high in let p = h.1 in absurd (omega (arith, ints))) (cases_lt (get_or c 0 0) 128))

-- ---- what the code returns

pub signed_test : (b : Bool) (c : List ℕ) → ((k : ℕ) → get_or c k 0 < 256) → b ≡ is_minimal c → (b ≡ true) ↔ IsSigned c
signed_test b c each e = ((λ t. is_minimal_IsSigned c (IsOctets_from_reads c each) (sym e ∙ t)), λ h. e ∙ IsSigned_is_minimal c h)

pub int_lt_signed_number : (c : List ℕ) → IsOctets c → leb 128 (get_or c 0 0) ≡ int_lt (signed_number c) (pos 0)
int_lt_signed_number c is =
    elim (cases_lt (get_or c 0 0) 128) [
      | inl h ↦
          let z = signed_number_not_negative c h in
          let test : int_lt (signed_number c) (pos 0) ≡ false = grind (arith, ints) in
          lt-leb 128 (get_or c 0 0) h ∙ sym test
      | inr h ↦
          let z = signed_number_negative c is h in
          let test : int_lt (signed_number c) (pos 0) ≡ true = grind (arith, ints) in
          le-leb 128 (get_or c 0 0) h ∙ sym test
    ]

pub unsigned_test : (c : List ℕ) → ((k : ℕ) → get_or c k 0 < 256) → is_minimal c ≡ true → (ltb (get_or c 0 0) 128 ≡ true) ↔ IsUnsigned c
unsigned_test c each e = (
  (λ t. (is_minimal_IsSigned c (IsOctets_from_reads c each) e, signed_number_not_negative c (ltb-true (get_or c 0 0) 128 t))),
  λ h. lt-ltb (get_or c 0 0) 128 (IsUnsigned_IsUnsignedForm c h).1,
)

pub none_unsigned : (b : Bool) (c : List ℕ) → b ≡ is_minimal c → b ≡ false → (b ≡ true) ↔ IsUnsigned c
none_unsigned b c e f = ((λ t. absurd (both_ways b f t)), λ h. absurd (both_ways (is_minimal c) (sym e ∙ f) (IsSigned_is_minimal c h.0)))

-- ---- what reading returns

pub read_integer_IsSignedForm : (c d : List ℕ) → IsSignedForm d → d ≡ c → read_integer c ≡ Ok (signed_number d)
read_integer_IsSignedForm c d h e = ap read_integer (sym e) ∙ read_signed_ok d (IsSignedForm_IsSigned d h)

pub read_unsigned_IsUnsignedForm : (c d : List ℕ) → IsUnsignedForm d → d ≡ c → read_unsigned c ≡ Ok (signed_number d)
read_unsigned_IsUnsignedForm c d h e = ap read_unsigned (sym e) ∙ read_unsigned_ok d (IsUnsignedForm_IsUnsigned d h)

pub read_integer_not_IsSigned : (c : List ℕ) (f : ReadError) → ((k : ℕ) → get_or c k 0 < 256) → (IsSigned c → ⊥) → f ≡ read_error InvalidValue → read_integer c ≡ Err f
read_integer_not_IsSigned c f each none e = read_signed_err c (IsOctets_from_reads c each) none ∙ ap Err (sym e)

pub read_unsigned_not_IsUnsigned : (c : List ℕ) (f : ReadError) → ((k : ℕ) → get_or c k 0 < 256) → (IsUnsigned c → ⊥) → f ≡ read_error InvalidValue → read_unsigned c ≡ Err f
read_unsigned_not_IsUnsigned c f each none e = read_unsigned_err c (IsOctets_from_reads c each) none ∙ ap Err (sym e)

-- memory ran out after the contents octets were found valid
pub IsErrorOf_owned_out : {M : Type 0} (read : List ℕ → Result M ReadError) (out : List ℕ → List Place → Type 0) (c : List ℕ) (m : M) (f : ReadError) → read c ≡ Ok m → f ≡ read_error AllocationError → IsErrorOf (owned_out read out c) (read c) f
IsErrorOf_owned_out read out c m f e same = inr (ap (λ (x : ReadError). x.kind) same, inr (m, e, ap (λ (x : ReadError). x.places) same))

-- ---- what writing appends

pub appends_signed : {E : Type 0} (r : Result (Unit {0}) E) (c old new : List ℕ) → IsSigned c → OnOk r (new ≡ old ++ c) → OnOk r (Appends (λ t. t ≡ integer_content (signed_number c)) old new)
appends_signed (Ok u) c old new h e = record { encoding = c; is_one = IsSigned_integer_content c h; joined = e }
appends_signed (Err f) c old new h e = tt

pub length_integer_content : (c : List ℕ) → IsSigned c → length c ≡ length (integer_content (signed_number c))
length_integer_content c h = ap length (IsSigned_integer_content c h)
