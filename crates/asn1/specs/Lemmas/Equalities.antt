-- The equality of a type tells its values by their encodings. This is proved once for each kind of type.
use Rattle.std.proofs.Common.{◌≡◌, ℕ, ℤ, pos, Bool, true, false, List, Option, Some, None, Result, Ok, refl, sym, ap, ◌∙◌}
use Rattle.std.specs.Prelude.{nat_eq, ◌&&◌}
use Rattle.std.specs.Option.{option_eq}
use Rattle.std.specs.Cmp.Lexicographic.{pointwise}
use Rattle.std.specs.Ordering.{int_eq}
use Rattle.std.specs.Bool.{Decides}
use Rattle.std.specs.Str.{bytes_eq}
use Rattle.std.proofs.lemmas.Bool.Decides.{Decides-int_eq, Decides-eqb, Decides-and, Decides-like}
use Rattle.std.proofs.lemmas.Slice.Eq.{bytes_eq-Decides}
use Rattle.asn1_core.specs.declared.tag.Tag.{Tag}
use Rattle.asn1_core.specs.Base256.{signed_number}
use Rattle.asn1_core.specs.Tag.{universal}
use Rattle.asn1_core.specs.Element.{element, element_encoding}
use Rattle.asn1_core.specs.Integer.{integer_content}
use Rattle.asn1_core.specs.Boolean.{bool_octets}
use Rattle.asn1_core.specs.ReadError.{ReadError}
use Rattle.asn1_core.specs.Lemmas.Results.{done_injective}
use Rattle.asn1_core.specs.Lemmas.Cuts.{element_encoding_content_injective}
use Rattle.asn1_core.specs.Lemmas.Integers.{signed_number_integer_content}
use Rattle.asn1_values.specs.Big.{IsSignedForm}
use Rattle.asn1_values.specs.Bits.{Bits, bits, bits_text}
use Rattle.asn1_values.specs.declared.object_identifier.ObjectIdentifier.{ObjectIdentifier}
use Rattle.asn1_values.specs.declared.values.times.UtcTime.{UtcTime}
use Rattle.asn1_values.specs.declared.values.times.X509GeneralizedTime.{X509GeneralizedTime}
use Rattle.asn1_values.specs.declared.values.generalized_time.GeneralizedTime.{GeneralizedTime}
use Rattle.asn1_values.specs.Identifier.{identifier_content, read_identifier}
use Rattle.asn1_values.specs.IdentifierValues.{identifier_of}
use Rattle.asn1_values.specs.Times.{Moment, Instant, instant, utc_text, x509_text, instant_text}
use Rattle.asn1_values.specs.TimeSteps.{read_utc, read_x509, read_instant}
use Rattle.asn1_values.specs.TimeValues.{utc_moment, x509_moment, instant_of}
use Rattle.asn1_values.specs.Lemmas.Identifier.{identifier_read_back, IsIdentifierForm_InHand}
use Rattle.asn1_values.proofs.SameIdentifiers.{equal_identifiers}
use Rattle.asn1_values.specs.Lemmas.Times.{utc_read_back, x509_read_back}
use Rattle.asn1_values.specs.Lemmas.Fractions.{instant_read_back}
use Rattle.asn1_values.specs.Lemmas.Big.{IsSigned_integer_content, IsSignedForm_IsSigned}
use Rattle.asn1.specs.Defaulted.{EqualityTells, ContentTells}
use Rattle.asn1_core.specs.Lemmas.Facts.{cons_injective}

-- ---- the types

-- a simple type, by its contents octets
pub simple_tells : {V M : Type 0} (view : V → M) (tag : Tag) (encoding : M → List ℕ) (same : V → V → Bool) (a b : V) → (same a b ≡ true → view a ≡ view b) → (encoding (view a) ≡ encoding (view b) → same a b ≡ true) → EqualityTells view (λ m. element_encoding (element tag (encoding m))) same a b
simple_tells view tag encoding same a b means equal = record { means = means; equal = λ e. equal (element_encoding_content_injective tag (encoding (view a)) (encoding (view b)) e) }

bool_octets_injective : (a b : Bool) → bool_octets a ≡ bool_octets b → a ≡ b
bool_octets_injective true true e = refl
bool_octets_injective false false e = refl
bool_octets_injective true false e = absurd cc
bool_octets_injective false true e = absurd cc

bools_equal : (same : Bool → Bool → Bool) → same true true ≡ true → same false false ≡ true → (a b : Bool) → a ≡ b → same a b ≡ true
bools_equal same both none true b e = rw (← e) both
bools_equal same both none false b e = rw (← e) none

bools_mean : (same : Bool → Bool → Bool) → same true false ≡ false → same false true ≡ false → (a b : Bool) → same a b ≡ true → a ≡ b
bools_mean same first second true true e = refl
bools_mean same first second false false e = refl
bools_mean same first second true false e = absurd cc
bools_mean same first second false true e = absurd cc

pub bools_tell : (tag : Tag) (same : Bool → Bool → Bool) → same true true ≡ true → same false false ≡ true → same true false ≡ false → same false true ≡ false → (a b : Bool) → EqualityTells (λ x. x) (λ m. element_encoding (element tag (bool_octets m))) same a b
bools_tell tag same both none first second a b = simple_tells (λ x. x) tag bool_octets same a b (bools_mean same first second a b) (λ e. bools_equal same both none a b (bool_octets_injective a b e))

integer_content_injective : (y z : ℤ) → integer_content y ≡ integer_content z → y ≡ z
integer_content_injective y z e = sym (signed_number_integer_content y) ∙ (ap signed_number e ∙ signed_number_integer_content z)

pos_injective : (a b : ℕ) → pos a ≡ pos b → a ≡ b
pos_injective a b e = cc

abbrev pub number_text : Tag → ℤ → List ℕ
number_text tag z = element_encoding (element tag (integer_content z))

-- integers, by the number that a value means
pub integers_tell : (tag : Tag) (a b : ℤ) → EqualityTells (λ z. z) (number_text tag) int_eq a b
integers_tell tag a b = simple_tells (λ z. z) tag integer_content int_eq a b (Decides-int_eq a b).0 (λ e. (Decides-int_eq a b).1 (integer_content_injective a b e))

pub naturals_tell : (tag : Tag) (a b : ℕ) → EqualityTells (λ n. pos n) (number_text tag) nat_eq a b
naturals_tell tag a b = simple_tells (λ n. pos n) tag integer_content nat_eq a b (λ e. ap (λ (n : ℕ). pos n) ((Decides-eqb a b).0 e)) (λ e. (Decides-eqb a b).1 (pos_injective a b (integer_content_injective (pos a) (pos b) e)))

-- values whose octets are the contents octets
pub octets_tell : {V : Type 0} (view : V → List ℕ) (tag : Tag) (same : V → V → Bool) (a b : V) → Decides (same a b) (view a ≡ view b) → EqualityTells view (λ m. element_encoding (element tag m)) same a b
octets_tell view tag same a b decides = simple_tells view tag (λ m. m) same a b decides.0 decides.1

-- ---- the same of contents octets alone

pub bools_content_tells : (same : Bool → Bool → Bool) → same true true ≡ true → same false false ≡ true → (a b : Bool) → ContentTells (λ x. x) bool_octets same a b
bools_content_tells same both none a b e = bools_equal same both none a b (bool_octets_injective a b e)

pub integers_content_tells : (a b : ℤ) → ContentTells (λ z. z) integer_content int_eq a b
integers_content_tells a b e = (Decides-int_eq a b).1 (integer_content_injective a b e)

pub naturals_content_tells : (a b : ℕ) → ContentTells (λ n. pos n) integer_content nat_eq a b
naturals_content_tells a b e = (Decides-eqb a b).1 (pos_injective a b (integer_content_injective (pos a) (pos b) e))

-- ---- integers of any length, by their octets

module _ {V : Type 0} (octets : V → List ℕ) (same : V → V → Bool) (a b : V) (f : IsSignedForm (octets a)) (g : IsSignedForm (octets b)) (decides : Decides (same a b) (octets a ≡ octets b)) where
  pub big_content_tells : ContentTells (λ v. signed_number (octets v)) integer_content same a b
  big_content_tells e = decides.1 (IsSigned_integer_content (octets a) (IsSignedForm_IsSigned (octets a) f) ∙ (e ∙ sym (IsSigned_integer_content (octets b) (IsSignedForm_IsSigned (octets b) g))))

  pub big_tells : EqualityTells (λ v. signed_number (octets v)) (λ z. element_encoding (element (universal 2) (integer_content z))) same a b
  big_tells = simple_tells (λ v. signed_number (octets v)) (universal 2) integer_content same a b (λ e. ap signed_number (decides.0 e)) big_content_tells

-- ---- bit strings, by octets and padding

pub bits_decide : (x y : List ℕ) (p q : ℕ) → Decides (bytes_eq x y && nat_eq p q) (bits x p ≡ bits y q)
bits_decide x y p q =
    Decides-like (bytes_eq x y && nat_eq p q) (λ h. ap (λ (o : List ℕ). bits o p) h.0 ∙ ap (λ (n : ℕ). bits y n) h.1) (λ e. (ap (λ (s : Bits). s.octets) e, ap (λ (s : Bits). s.padding) e))
    (Decides-and (bytes_eq x y) (nat_eq p q) (bytes_eq-Decides x y) (Decides-eqb p q))

module _ {V : Type 0} (octets : V → List ℕ) (padding : V → ℕ) (same : V → V → Bool) (a b : V) (decides : Decides (same a b) (bits (octets a) (padding a) ≡ bits (octets b) (padding b))) where
  pub bits_content_tells : ContentTells (λ v. bits (octets v) (padding v)) bits_text same a b
  bits_content_tells e =
      let h = cons_injective (padding a) (padding b) (octets a) (octets b) e in
      decides.1 (ap (λ (o : List ℕ). bits o (padding a)) h.1 ∙ ap (λ (n : ℕ). bits (octets b) n) h.0)

  pub bits_tell : EqualityTells (λ v. bits (octets v) (padding v)) (λ s. element_encoding (element (universal 3) (bits_text s))) same a b
  bits_tell = simple_tells (λ v. bits (octets v) (padding v)) (universal 3) bits_text same a b decides.0 bits_content_tells

-- ---- types whose contents octets are read back

module _ {V M : Type 0} (view : V → M) (encoding : M → List ℕ) (read : List ℕ → Result M ReadError) (same : V → V → Bool) (back : (v : V) → read (encoding (view v)) ≡ Ok (view v)) (decides : (a b : V) → Decides (same a b) (view a ≡ view b)) where
  pub read_back_content_tells : (a b : V) → ContentTells view encoding same a b
  read_back_content_tells a b e = (decides a b).1 (done_injective (view a) (view b) (sym (back a) ∙ (ap read e ∙ back b)))

  pub read_back_tells : (tag : Tag) (a b : V) → EqualityTells view (λ m. element_encoding (element tag (encoding m))) same a b
  read_back_tells tag a b = simple_tells view tag encoding same a b (decides a b).0 (read_back_content_tells a b)

-- object identifiers, by their numbers
read_identifier_identifier_of : (o : ObjectIdentifier) → read_identifier (identifier_content (identifier_of o)) ≡ Ok (identifier_of o)
read_identifier_identifier_of o = identifier_read_back (identifier_of o) (IsIdentifierForm_InHand o.octets o.count o.is_content).value

abbrev same_identifiers : ObjectIdentifier → ObjectIdentifier → Bool
same_identifiers a b = pointwise nat_eq a.octets b.octets && nat_eq a.count b.count

pub identifiers_content_tells : (a b : ObjectIdentifier) → ContentTells identifier_of identifier_content same_identifiers a b
identifiers_content_tells = read_back_content_tells identifier_of identifier_content read_identifier same_identifiers read_identifier_identifier_of equal_identifiers

pub identifiers_tell : (a b : ObjectIdentifier) → EqualityTells identifier_of (λ m. element_encoding (element (universal 6) (identifier_content m))) same_identifiers a b
identifiers_tell = read_back_tells identifier_of identifier_content read_identifier same_identifiers read_identifier_identifier_of equal_identifiers (universal 6)

-- times, by their numbers
abbrev same_moments : Moment → Moment → Bool
same_moments m n = nat_eq m.year n.year && (nat_eq m.month n.month && (nat_eq m.day n.day && (nat_eq m.hour n.hour && (nat_eq m.minute n.minute && nat_eq m.second n.second))))

abbrev moment_with : ℕ → ℕ → ℕ → ℕ → ℕ → ℕ → Moment
moment_with year month day hour minute second = record { year = year; month = month; day = day; hour = hour; minute = minute; second = second }

abbrev AreNumbersOf : Moment → Moment → Type 0
AreNumbersOf m n = (m.year ≡ n.year) × ((m.month ≡ n.month) × ((m.day ≡ n.day) × ((m.hour ≡ n.hour) × ((m.minute ≡ n.minute) × (m.second ≡ n.second)))))

numbers_decide : {P : Type 0} {b : Bool} (x y : ℕ) → Decides b P → Decides (nat_eq x y && b) ((x ≡ y) × P)
numbers_decide {P} {b} x y others = Decides-and (nat_eq x y) b (Decides-eqb x y) others

AreNumbersOf_eq : (m n : Moment) → AreNumbersOf m n → m ≡ n
AreNumbersOf_eq m n h =
    let same : moment_with m.year m.month m.day m.hour m.minute m.second ≡ moment_with n.year n.month n.day n.hour n.minute n.second = rw (h.0, h.1.0, h.1.1.0, h.1.1.1.0, h.1.1.1.1.0, h.1.1.1.1.1) refl in
    same

eq_AreNumbersOf : (m n : Moment) → m ≡ n → AreNumbersOf m n
eq_AreNumbersOf m n e = (ap (λ (x : Moment). x.year) e, (ap (λ (x : Moment). x.month) e, (ap (λ (x : Moment). x.day) e, (ap (λ (x : Moment). x.hour) e, (ap (λ (x : Moment). x.minute) e, ap (λ (x : Moment). x.second) e)))))

moments_decide : (m n : Moment) → Decides (same_moments m n) (m ≡ n)
moments_decide m n =
    Decides-like (same_moments m n) (AreNumbersOf_eq m n) (eq_AreNumbersOf m n)
    (numbers_decide m.year n.year (numbers_decide m.month n.month (numbers_decide m.day n.day (numbers_decide m.hour n.hour (numbers_decide m.minute n.minute (Decides-eqb m.second n.second))))))

read_utc_utc_text : (t : UtcTime) → read_utc (utc_text (utc_moment t)) ≡ Ok (utc_moment t)
read_utc_utc_text t = utc_read_back (utc_moment t) (t.datetime.is_date, t.in_range.0, t.in_range.1)

abbrev same_utc_times : UtcTime → UtcTime → Bool
same_utc_times a b = same_moments (utc_moment a) (utc_moment b)

pub utc_times_content_tells : (a b : UtcTime) → ContentTells utc_moment utc_text same_utc_times a b
utc_times_content_tells = read_back_content_tells utc_moment utc_text read_utc same_utc_times read_utc_utc_text (λ a b. moments_decide (utc_moment a) (utc_moment b))

pub utc_times_tell : (a b : UtcTime) → EqualityTells utc_moment (λ m. element_encoding (element (universal 23) (utc_text m))) same_utc_times a b
utc_times_tell = read_back_tells utc_moment utc_text read_utc same_utc_times read_utc_utc_text (λ a b. moments_decide (utc_moment a) (utc_moment b)) (universal 23)

read_x509_x509_text : (t : X509GeneralizedTime) → read_x509 (x509_text (x509_moment t)) ≡ Ok (x509_moment t)
read_x509_x509_text t = x509_read_back (x509_moment t) (t.datetime.is_date, t.in_range)

abbrev same_x509_times : X509GeneralizedTime → X509GeneralizedTime → Bool
same_x509_times a b = same_moments (x509_moment a) (x509_moment b)

pub x509_times_content_tells : (a b : X509GeneralizedTime) → ContentTells x509_moment x509_text same_x509_times a b
x509_times_content_tells = read_back_content_tells x509_moment x509_text read_x509 same_x509_times read_x509_x509_text (λ a b. moments_decide (x509_moment a) (x509_moment b))

pub x509_times_tell : (a b : X509GeneralizedTime) → EqualityTells x509_moment (λ m. element_encoding (element (universal 24) (x509_text m))) same_x509_times a b
x509_times_tell = read_back_tells x509_moment x509_text read_x509 same_x509_times read_x509_x509_text (λ a b. moments_decide (x509_moment a) (x509_moment b)) (universal 24)

abbrev same_instants : Instant → Instant → Bool
same_instants i j = same_moments i.moment j.moment && option_eq nat_eq i.nanoseconds j.nanoseconds

Some_injective : (m n : ℕ) → ◌≡◌ {A = Option ℕ} (Some m) (Some n) → m ≡ n
Some_injective m n e = cc

nanoseconds_decide : (m n : Option ℕ) → Decides (option_eq nat_eq m n) (m ≡ n)
nanoseconds_decide None None = (λ e. refl, λ e. refl)
nanoseconds_decide None (Some n) = (λ e. absurd cc, λ e. absurd cc)
nanoseconds_decide (Some m) None = (λ e. absurd cc, λ e. absurd cc)
nanoseconds_decide (Some m) (Some n) = Decides-like (nat_eq m n) (ap (λ (x : ℕ). Some x)) (Some_injective m n) (Decides-eqb m n)

instants_decide : (i j : Instant) → Decides (same_instants i j) (i ≡ j)
instants_decide i j =
    Decides-like (same_instants i j) (λ h. ap (λ (m : Moment). instant m i.nanoseconds) h.0 ∙ ap (λ (n : Option ℕ). instant j.moment n) h.1) (λ e. (ap (λ (x : Instant). x.moment) e, ap (λ (x : Instant). x.nanoseconds) e))
    (Decides-and (same_moments i.moment j.moment) (option_eq nat_eq i.nanoseconds j.nanoseconds) (moments_decide i.moment j.moment) (nanoseconds_decide i.nanoseconds j.nanoseconds))

read_instant_instant_text : (t : GeneralizedTime) → read_instant (instant_text (instant_of t)) ≡ Ok (instant_of t)
read_instant_instant_text t = instant_read_back (instant_of t) ((t.datetime.is_date, t.in_range), t.in_second)

abbrev same_generalized_times : GeneralizedTime → GeneralizedTime → Bool
same_generalized_times a b = same_instants (instant_of a) (instant_of b)

pub generalized_times_content_tells : (a b : GeneralizedTime) → ContentTells instant_of instant_text same_generalized_times a b
generalized_times_content_tells = read_back_content_tells instant_of instant_text read_instant same_generalized_times read_instant_instant_text (λ a b. instants_decide (instant_of a) (instant_of b))

pub generalized_times_tell : (a b : GeneralizedTime) → EqualityTells instant_of (λ m. element_encoding (element (universal 24) (instant_text m))) same_generalized_times a b
generalized_times_tell = read_back_tells instant_of instant_text read_instant same_generalized_times read_instant_instant_text (λ a b. instants_decide (instant_of a) (instant_of b)) (universal 24)

-- ---- wrappers

-- values that are seen as others, for example a wrapper as its inner value
pub seen_tells : {V W M : Type 0} (view : W → V) (meaning : V → M) (encoding : M → List ℕ) (same : V → V → Bool) (a b : W) → EqualityTells meaning encoding same (view a) (view b) → EqualityTells (λ w. meaning (view w)) encoding (λ x y. same (view x) (view y)) a b
seen_tells view meaning encoding same a b tells = record { means = tells.means; equal = tells.equal }

-- the same, with the encoding as the contents octets of an element
pub inside_tells : {V W M : Type 0} (view : W → V) (meaning : V → M) (tag : Tag) (encoding : M → List ℕ) (same : V → V → Bool) (a b : W) → EqualityTells meaning encoding same (view a) (view b) → EqualityTells (λ w. meaning (view w)) (λ m. element_encoding (element tag (encoding m))) (λ x y. same (view x) (view y)) a b
inside_tells view meaning tag encoding same a b tells = record { means = tells.means; equal = λ e. tells.equal (element_encoding_content_injective tag (encoding (meaning (view a))) (encoding (meaning (view b))) e) }

-- the same contents octets under another tag
pub retagged_tells : {V W M : Type 0} (view : W → V) (meaning : V → M) (tag : Tag) (inner encoding : M → List ℕ) (same : V → V → Bool) (a b : W) → EqualityTells meaning inner same (view a) (view b) → ContentTells meaning encoding same (view a) (view b) → EqualityTells (λ w. meaning (view w)) (λ m. element_encoding (element tag (encoding m))) (λ x y. same (view x) (view y)) a b
retagged_tells view meaning tag inner encoding same a b tells content = simple_tells (λ w. meaning (view w)) tag encoding (λ x y. same (view x) (view y)) a b tells.means content
