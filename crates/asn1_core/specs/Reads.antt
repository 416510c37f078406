-- What calls that read return, a relation for each: the value, the first error, or out of memory.
use Rattle.std.specs.Prelude.{ℕ, ◌≡◌, ◌<◌, ◌^◌, [], ◌++◌, length, List, Result, Ok, false}
use Rattle.asn1_core.specs.declared.tag.Tag.{Tag}
use Rattle.asn1_core.specs.declared.parser.Place.{Place}
use Rattle.asn1_core.specs.Element.{element, element_encoding}
use Rattle.asn1_core.specs.ReadError.{ReadError}
use Rattle.asn1_core.specs.Tag.{implicit_tag_of, explicit_tag_of}
use Rattle.asn1_core.specs.Reading.{Returns, Fits, begins_accepted, simple, simple_out, whole}
use Rattle.asn1_core.specs.Der.{Der}
use Rattle.asn1_core.specs.DefinedBy.{ByItem}

-- What reading all of these contents octets returns, for a type with a tag of its own.
abbrev pub ReadsContents : {V : Type 0} → Der V → List ℕ → Result V ReadError → Type 0
ReadsContents d contents result = Returns d.meaning (d.content.runs_out contents) result (d.content.read contents)

-- What reading all of these octets returns.
abbrev pub ReadsWhole : {V : Type 0} → Der V → List ℕ → Result V ReadError → Type 0
ReadsWhole d octets result = Returns d.meaning (d.runs_out octets) result (whole (d.read octets))

-- What reading a prefix of the first octets returns, if the second octets remain.
abbrev pub ReadsPrefix : {V : Type 0} → Der V → List ℕ → List ℕ → Result V ReadError → Type 0
ReadsPrefix d octets remaining result = Returns (λ v. (d.meaning v, remaining)) (d.runs_out octets) result (d.read octets)

-- The same under the explicit tag with this number (X.690 8.14): its contents octets are one encoding.
abbrev pub ReadsExplicit : {V : Type 0} → ℕ → Der V → List ℕ → List ℕ → Result V ReadError → Type 0
ReadsExplicit number d octets remaining result =
    let tag = explicit_tag_of number in
    Returns (λ v. (d.meaning v, remaining)) (simple_out tag d.runs_out octets) result (simple tag (λ c. whole (d.read c)) octets)

-- The same with the implicit tag of this number in place of the type's own (X.690 8.14).
abbrev pub ReadsImplicit : {V : Type 0} → ℕ → Der V → List ℕ → List ℕ → Result V ReadError → Type 0
ReadsImplicit number d octets remaining result =
    let tag = implicit_tag_of number d.content.tag in
    Returns (λ v. (d.meaning v, remaining)) (simple_out tag d.content.runs_out octets) result (simple tag d.content.read octets)

-- The same of a value that an item defines.
abbrev pub ReadsDefined : {T V : Type 0} → ByItem T V → T → List ℕ → List ℕ → Result V ReadError → Type 0
ReadsDefined by item octets remaining result =
    Returns (λ v. (by.means.meaning v, remaining)) (by.means.runs_out (by.seen item) octets) result (by.means.read (by.seen item) octets)

-- This value is valid and within the type's bounds, and its encoding is short enough to be read.
abbrev pub IsReadValue : {V : Type 0} → (d : Der V) → d.Meaning → Type 0
IsReadValue d m = d.valid m × (d.allowed m × Fits (d.encoding m))

-- These octets are the encoding of this value, which is valid, within the type's bounds, and short enough to be read.
abbrev pub IsEncodingOf : {V : Type 0} → Der V → V → List ℕ → Type 0
IsEncodingOf d v octets = (octets ≡ d.encoding (d.meaning v)) × IsReadValue d (d.meaning v)

-- The same of an abstract value.
pub record Encodes {V : Type 0} (d : Der V) (m : d.Meaning) (octets : List ℕ) : Type 0 where
  pub is : octets ≡ d.encoding m
  pub valid : d.valid m
  pub allowed : d.allowed m
  pub fits : Fits (d.encoding m)

-- The octets begin with the encoding of this value, which is valid, within the type's bounds, and short enough to be
-- read; these remain.
abbrev pub BeginsWithEncodingOf : {V : Type 0} → Der V → V → List ℕ → List ℕ → Type 0
BeginsWithEncodingOf d v octets remaining = (octets ≡ d.encoding (d.meaning v) ++ remaining) × IsReadValue d (d.meaning v)

-- The octets begin with an element with this tag and these contents octets; these remain.
abbrev pub BeginsWithElement : Tag → List ℕ → List ℕ → List ℕ → Type 0
BeginsWithElement tag content octets remaining = octets ≡ element_encoding (element tag content) ++ remaining

-- The octets begin with the encoding of this value under the explicit tag with this number (X.690 8.14); these remain.
abbrev pub BeginsWithExplicit : {V : Type 0} → ℕ → Der V → V → List ℕ → List ℕ → Type 0
BeginsWithExplicit number d v octets remaining =
    let m = d.meaning v in
    BeginsWithElement (explicit_tag_of number) (d.encoding m) octets remaining × (d.valid m × d.allowed m)

-- The octets begin with the encoding of this value, whose own tag is replaced by the implicit one with this number
-- (X.690 8.14); these remain.
abbrev pub BeginsWithImplicit : {V : Type 0} → ℕ → Der V → V → List ℕ → List ℕ → Type 0
BeginsWithImplicit number d v octets remaining =
    let m = d.meaning v in
    BeginsWithElement (implicit_tag_of number d.content.tag) (d.content.encoding m) octets remaining × (d.content.valid m × d.content.allowed m)

-- A call returned this value and left these octets, or memory ran out at one of the locations.
abbrev pub ReturnsValue : {V : Type 0} → (d : Der V) → (List Place → Type 0) → Result V ReadError → List ℕ → d.Meaning → List ℕ → Type 0
ReturnsValue d out result remaining m rest = Returns {M = d.Meaning × List ℕ} (λ v. (d.meaning v, remaining)) out result (Ok (m, rest))

-- If all of the octets are the encoding of a value of a lawful type, they are read as that value, unless memory runs
-- out.
abbrev pub ReadsBack : {V : Type 0} → Der V → List ℕ → Result V ReadError → Type 0
ReadsBack d octets result =
    (m : d.Meaning) → d.lawful → d.valid m → d.allowed m → Fits (d.encoding m) → octets ≡ d.encoding m
    → Returns d.meaning (d.runs_out octets) result (Ok m)

-- If the first octets begin with the encoding of a value of a lawful type, that value is read, unless memory runs out,
-- and the octets after the encoding remain. After a value without octets no tag may follow that the type accepts.
abbrev pub ReadsBackPrefix : {V : Type 0} → Der V → List ℕ → List ℕ → Result V ReadError → Type 0
ReadsBackPrefix d octets remaining result =
    (m : d.Meaning) (rest : List ℕ) → d.lawful → d.valid m → d.allowed m → Fits (d.encoding m)
    → (d.encoding m ≡ [] → begins_accepted d.accepts rest ≡ false) → octets ≡ d.encoding m ++ rest
    → ReturnsValue d (d.runs_out octets) result remaining m rest

-- The same under the explicit tag with this number (X.690 8.14), for contents octets whose length is read.
abbrev pub ReadsBackExplicit : {V : Type 0} → ℕ → Der V → List ℕ → List ℕ → Result V ReadError → Type 0
ReadsBackExplicit number d octets remaining result =
    (m : d.Meaning) (rest : List ℕ) → d.lawful → d.valid m → d.allowed m → length (d.encoding m) < 2 ^ 32
    → BeginsWithElement (explicit_tag_of number) (d.encoding m) octets rest
    → ReturnsValue d (simple_out (explicit_tag_of number) d.runs_out octets) result remaining m rest

-- The same with the implicit tag of this number in place of the type's own (X.690 8.14).
abbrev pub ReadsBackImplicit : {V : Type 0} → ℕ → Der V → List ℕ → List ℕ → Result V ReadError → Type 0
ReadsBackImplicit number d octets remaining result =
    (m : d.Meaning) (rest : List ℕ) → d.content.lawful → d.content.valid m → d.content.allowed m
    → length (d.content.encoding m) < 2 ^ 32
    → BeginsWithElement (implicit_tag_of number d.content.tag) (d.content.encoding m) octets rest
    → ReturnsValue d (simple_out (implicit_tag_of number d.content.tag) d.content.runs_out octets) result remaining m rest

-- Each value of the type has one encoding, and values are read: the encoding of a value within the type's bounds is
-- read back as that value, and nothing else is read.
abbrev pub HasOneEncoding : {V : Type 0} → Der V → Type 0
HasOneEncoding d = d.lawful × d.plain × d.is_read
