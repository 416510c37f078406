-- What reading the fields of a structure returns (X.690 8.9), and the encodings that they append.
use Rattle.std.proofs.Common.{◌≡◌, ℕ, ◌<◌, ◌^◌, List, ◌++◌, Result, Ok, Err, ◌+◌, Option, Some, None}
use Rattle.std.specs.Prelude.{SomeIff}
use Rattle.asn1_core.specs.declared.parser.Place.{Place}
use Rattle.asn1_core.specs.declared.parser.Place.TheVariants.{Field}
use Rattle.asn1_core.specs.Element.{◌>>=◌}
use Rattle.asn1_core.specs.ReadError.{ReadError, add, within}
use Rattle.asn1_core.specs.Reading.{all_taken}

-- An error in a field gets the field's location.
abbrev pub in_field : {A : Type 0} → List ℕ → Result A ReadError → Result A ReadError
in_field name (Ok x) = Ok x
in_field name (Err f) = Err (within (Field name) f)

abbrev pub field_out : List ℕ → (List ℕ → List Place → Type 0) → List ℕ → List Place → Type 0
field_out name out c places = (inner : List Place) × out c inner × (places ≡ add (Field name) inner)

-- The last field: nothing may remain after it.
abbrev pub last_read : {M : Type 0} → List ℕ → (List ℕ → Result (M × List ℕ) ReadError) → List ℕ → Result M ReadError
last_read name read c = in_field name (read c) >>= λ x. all_taken x.0 x.1

-- A field, and the others after it.
abbrev pub field_read : {M N : Type 0} → List ℕ → (List ℕ → Result (M × List ℕ) ReadError) → (List ℕ → Result N ReadError) → List ℕ → Result (M × N) ReadError
field_read name read others c = in_field name (read c) >>= λ x. others x.1 >>= λ n. Ok (x.0, n)

abbrev pub others_out : {M : Type 0} → (List ℕ → Result (M × List ℕ) ReadError) → (List ℕ → List Place → Type 0) → List ℕ → List Place → Type 0
others_out {M} read out c places = (x : M × List ℕ) × (read c ≡ Ok x) × out x.1 places

-- An encoding of the first, and then an encoding of the second.
pub record Both (texts1 texts2 : List ℕ → Type 0) (t : List ℕ) : Type 0 where
  pub front : List ℕ
  pub back : List ℕ
  pub first : texts1 front
  pub second : texts2 back
  pub is : t ≡ front ++ back

abbrev pub item_read : {I M : Type 0} → List ℕ → (List ℕ → Result (I × List ℕ) ReadError) → (I → List ℕ → Result M ReadError) → List ℕ → Result M ReadError
item_read name read behind c = in_field name (read c) >>= λ x. behind x.0 x.1

abbrev pub behind_out : {I : Type 0} → (List ℕ → Result (I × List ℕ) ReadError) → (I → List ℕ → List Place → Type 0) → List ℕ → List Place → Type 0
behind_out {I} read out c places = (x : I × List ℕ) × (read c ≡ Ok x) × out x.0 x.1 places

-- the length of both, if each is known and the sum is below 2^64
abbrev pub IsSum : Option ℕ → Option ℕ → Option ℕ → Type 0
IsSum (Some a) (Some b) n = SomeIff n (a + b < 2 ^ 64) (a + b)
IsSum _ _ n = n ≡ None
