-- Options: a value of the type, or nothing.
use Rattle.std.specs.Prelude.{ℕ, ◌≡◌, List, [], if◌then◌else◌, Result, Ok, Bool, true, Option, Some, None}
use Rattle.std.specs.Option.{option_map, option_map_or, IfSome}
use Rattle.asn1_core.specs.declared.tag.Tag.{Tag}
use Rattle.asn1_core.specs.declared.parser.Place.{Place}
use Rattle.asn1_core.specs.Element.{◌>>=◌}
use Rattle.asn1_core.specs.ReadError.{ReadError}
use Rattle.asn1_core.specs.Reading.{begins_accepted}

-- What the values mean.
abbrev pub option_meaning : {V M : Type 0} → (V → M) → Option V → Option M
option_meaning meaning o = option_map meaning o

-- What is required of the value, if there is one.
abbrev pub IfThere : {M : Type 0} → (M → Type 0) → Option M → Type 0
IfThere good o = IfSome o good

-- The same, said of each value that the option may be.
abbrev pub OfValue : {V : Type 0} → (V → Type 0) → Option V → Type 0
OfValue {V} good o = (v : V) → o ≡ Some v → good v

-- The encoding of the value, or nothing if there is none.
abbrev pub option_octets : {M : Type 0} → (M → List ℕ) → Option M → List ℕ
option_octets octets o = option_map_or octets o []

abbrev pub option_encodings : {M : Type 0} → (M → List ℕ → Type 0) → Option M → List ℕ → Type 0
option_encodings encodings None t = t ≡ []
option_encodings encodings (Some m) t = encodings m t

-- If the octets begin with an accepted tag, a value is read; otherwise nothing.
abbrev pub option_read : {M : Type 0} → (Tag → Bool) → (List ℕ → Result (M × List ℕ) ReadError) → List ℕ → Result (Option M × List ℕ) ReadError
option_read accepts read t = if begins_accepted accepts t then (read t >>= λ x. Ok (Some x.0, x.1)) else Ok (None, t)

-- Memory may run out if a value is read.
abbrev pub option_out : (Tag → Bool) → (List ℕ → List Place → Type 0) → List ℕ → List Place → Type 0
option_out accepts out t places = (begins_accepted accepts t ≡ true) × out t places

-- The errors of the value, if there is one.
abbrev pub OptionErrors : {T E : Type 0} → (T → E → Type 0) → Option T → E → Type 0
OptionErrors {T} named o e = (v : T) × (o ≡ Some v) × named v e
