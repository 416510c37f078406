-- Object identifiers by their arcs (X.660), and the values whose types they name.
use Rattle.std.specs.Prelude.{ℕ, ◌+◌, ◌*◌, List, [], ◌∷◌, ◌≡◌, Result, Ok, Err}
use Rattle.asn1.specs.Der.{Der}
use Rattle.asn1.specs.ReadError.{ReadError}
use Rattle.asn1.specs.Reads.{ReadsWhole}

-- The numbers that arcs are encoded as: the first two arcs are one number. (X.690 8.19.4)
abbrev pub of_arcs : List ℕ → List ℕ
of_arcs [] = []
of_arcs (first ∷ []) = []
of_arcs (first ∷ second ∷ others) = (40 * first + second) ∷ others

-- ---- values that are read as one of several types, each held by a variant

-- The type of a value, and the variant of E that holds values of this type.
pub record ValueType (E : Type 0) : Type 1 where
  pub Value : Type 0
  pub der : Der Value
  pub variant : Value → E

-- The type of a value that an identifier names, and the variant that holds such a value.
abbrev pub typed : {V E : Type 0} → Der V → (V → E) → ValueType E
typed {V = V} d v = record { Value = V; der = d; variant = v }

-- What reading all of these octets as a value of that type returns, with the value in its variant.
abbrev pub ReadsTyped : {E : Type 0} → ValueType E → List ℕ → Result E ReadError → Type 0
ReadsTyped type octets (Ok held) = (value : type.Value) × (held ≡ type.variant value) × ReadsWhole type.der octets (Ok value)
ReadsTyped type octets (Err error) = ReadsWhole type.der octets (Err error)
