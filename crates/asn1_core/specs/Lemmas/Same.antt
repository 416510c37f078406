-- The tests of kinds, locations and errors decide whether these are equal.
use Rattle.std.proofs.Common.{◌≡◌, ℕ, true, ◌&&◌, eqb, List, refl, sym, ap, ◌∙◌}
use Rattle.std.specs.Bool.{Decides}
use Rattle.std.specs.Cmp.Lexicographic.{pointwise}
use Rattle.std.proofs.lemmas.Bool.{eqb-true, eq-eqb, and_from, and_parts}
use Rattle.std.proofs.lemmas.Slice.Eq.{bytes_eq-Decides, slice_eq-Decides}
use Rattle.asn1_core.specs.declared.parser.ParseErrorKind.{ParseErrorKind}
use Rattle.asn1_core.specs.declared.parser.ParseErrorKind.TheVariants.{InvalidValue, InvalidTag, InvalidLength, InvalidSize, UnexpectedTag, ShortData, IntegerOverflow, ExtraData, InvalidSetOrdering, EncodedDefault, OidTooLong, UnknownDefinedBy, AllocationError}
use Rattle.asn1_core.specs.declared.parser.Place.{Place}
use Rattle.asn1_core.specs.declared.parser.Place.TheVariants.{Field, Index}
use Rattle.asn1_core.specs.declared.tag.Tag.{Tag}
use Rattle.asn1_core.specs.Tag.{tag_eq}
use Rattle.asn1_core.specs.ReadError.{ReadError, kind_eq, place_eq, read_error_eq}
use Rattle.asn1_core.specs.Lemmas.Tags.{tag_eq_is, tag_eq_refl}

tag_of_kind : Tag → ParseErrorKind → Tag
tag_of_kind t (UnexpectedTag u) = u
tag_of_kind t _ = t

UnexpectedTag_injective : (a b : Tag) → UnexpectedTag a ≡ UnexpectedTag b → a ≡ b
unfolding tag_of_kind
UnexpectedTag_injective a b e = ap (tag_of_kind a) e

size_same : (a b c x y z : ℕ) → ((eqb a x && eqb b y) && eqb c z) ≡ true → InvalidSize a b c ≡ InvalidSize x y z
size_same a b c x y z e =
    let p = and_parts (eqb a x && eqb b y) (eqb c z) e in
    let q = and_parts (eqb a x) (eqb b y) p.0 in
    let i : a ≡ x = eqb-true a x q.0 in
    let j : b ≡ y = eqb-true b y q.1 in
    let k : c ≡ z = eqb-true c z p.1 in
    rw (i, j, k) refl

pub kind_eq_decides : (a b : ParseErrorKind) → Decides (kind_eq a b) (a ≡ b)
kind_eq_decides InvalidValue InvalidValue = (λ e. refl, λ e. refl)
kind_eq_decides InvalidTag InvalidTag = (λ e. refl, λ e. refl)
kind_eq_decides InvalidLength InvalidLength = (λ e. refl, λ e. refl)
kind_eq_decides (InvalidSize a b c) (InvalidSize x y z) = (λ e. size_same a b c x y z e, λ e. let i : a ≡ x = cc in let j : b ≡ y = cc in let k : c ≡ z = cc in and_from _ _ (and_from _ _ (eq-eqb a x i) (eq-eqb b y j)) (eq-eqb c z k))
kind_eq_decides (UnexpectedTag a) (UnexpectedTag b) = (λ e. ap (λ (t : Tag). UnexpectedTag t) (tag_eq_is a b e), λ e. ap (λ (t : Tag). tag_eq a t) (sym (UnexpectedTag_injective a b e)) ∙ tag_eq_refl a)
kind_eq_decides (ShortData n) (ShortData m) = (λ e. let i : n ≡ m = eqb-true n m e in rw i refl, λ e. let i : n ≡ m = cc in eq-eqb n m i)
kind_eq_decides IntegerOverflow IntegerOverflow = (λ e. refl, λ e. refl)
kind_eq_decides ExtraData ExtraData = (λ e. refl, λ e. refl)
kind_eq_decides InvalidSetOrdering InvalidSetOrdering = (λ e. refl, λ e. refl)
kind_eq_decides EncodedDefault EncodedDefault = (λ e. refl, λ e. refl)
kind_eq_decides OidTooLong OidTooLong = (λ e. refl, λ e. refl)
kind_eq_decides UnknownDefinedBy UnknownDefinedBy = (λ e. refl, λ e. refl)
kind_eq_decides AllocationError AllocationError = (λ e. refl, λ e. refl)
kind_eq_decides _ _ = (λ e. absurd cc, λ e. absurd cc)

pub place_eq_decides : (a b : Place) → Decides (place_eq a b) (a ≡ b)
place_eq_decides (Field a) (Field b) = (λ e. let i : a ≡ b = (bytes_eq-Decides a b).0 e in rw i refl, λ e. let i : a ≡ b = cc in (bytes_eq-Decides a b).1 i)
place_eq_decides (Index a) (Index b) = (λ e. let i : a ≡ b = eqb-true a b e in rw i refl, λ e. let i : a ≡ b = cc in eq-eqb a b i)
place_eq_decides _ _ = (λ e. absurd cc, λ e. absurd cc)

fault_same : (e f : ReadError) → e.kind ≡ f.kind → e.places ≡ f.places → e ≡ f
fault_same e f k p = ap (λ (x : ParseErrorKind). let r : ReadError = record { kind = x; places = e.places } in r) k ∙ ap (λ (x : List Place). let r : ReadError = record { kind = f.kind; places = x } in r) p

pub read_error_eq_decides : (e f : ReadError) → Decides (read_error_eq e f) (e ≡ f)
read_error_eq_decides e f =
    let places = slice_eq-Decides place_eq_decides e.places f.places (pointwise place_eq e.places f.places) refl in
    let kinds = kind_eq_decides e.kind f.kind in (
      λ t. let p = and_parts (kind_eq e.kind f.kind) (pointwise place_eq e.places f.places) t in fault_same e f (kinds.0 p.0) (places.0 p.1),
      λ same. and_from _ _ (kinds.1 (ap (λ (x : ReadError). x.kind) same)) (places.1 (ap (λ (x : ReadError). x.places) same)),
    )
