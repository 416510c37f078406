-- Structures (X.690 8.9), seen as rows of fields.
use Prim.Native.String.{String}
use Rattle.std.specs.Prelude.{◌≡◌, ◌↔◌, ℕ, List, map, codes, ◌++◌, Result}
use Rattle.asn1_core.specs.declared.parser.Place.{Place}
use Rattle.asn1_core.specs.Encoding.{simple_encoding}
use Rattle.asn1_core.specs.Der.{Der, encoding_of, der_of}
use Rattle.asn1_core.specs.DefinedBy.{defined_encoding}
use Rattle.asn1_core.specs.Listing.{set_tag}
use Rattle.asn1_core.specs.ReadError.{ReadError}
use Rattle.asn1_core.specs.Reading.{Returns}
use Rattle.asn1.specs.declared.fields.Names.{Names}
use Rattle.asn1.specs.ItemsAndValues.{ItemAndValue, seen_front}
use Rattle.asn1.specs.Fields.{Fields, FieldsLaws, FieldsBy, FieldsByLaws, field, last, no_fields, value_last, value_field, between, with_item, sequence, set_fields, tagged_fields}
use Rattle.asn1_core.specs.declared.tag.Tag.{Tag}
use Rattle.asn1.specs.LawsOf.Fields.{last_laws, field_laws, no_fields_laws, value_last_laws, value_field_laws, between_laws, with_item_laws, structure_laws, structure_with_tag_laws, set_structure_laws}
use Rattle.asn1.specs.declared.fields.NoFields.{NoFields}
use Rattle.asn1.specs.declared.fields.Field.{Field}
use Rattle.asn1.specs.declared.fields.Last.{Last}
use Rattle.asn1.specs.declared.wrappers.tagged.Explicit.{Explicit}
use Rattle.asn1.specs.declared.wrappers.tagged.Implicit.{Implicit}
use Rattle.asn1.specs.declared.wrappers.defaulted.Defaulted.{Defaulted}

-- ---- lists of fields as types, and their names

-- The names, in order.
abbrev pub texts_of : Names → List (List ℕ)
texts_of names = map (λ s. s.now) names.list.now

-- The names of a struct's fields as errors show them, such as `Signature::r`.
abbrev pub field_names : String → List String → List (List ℕ)
field_names owner fields = map (λ field. codes owner ++ codes "::" ++ codes field) fields

-- What a list of fields means.
pub record FieldList (V : Type 0) : Type 1 where
  pub Meaning : Type 0
  pub meaning : V → Meaning
  pub fields : Fields Meaning
  pub laws : FieldsLaws fields

-- What a row of no fields means.
abbrev pub empty_list : {W : Type 0} → FieldList W
empty_list = record {
  Meaning = Unit {0};
  meaning = λ w. tt;
  fields = no_fields;
  laws = no_fields_laws;
}

-- What a row of one field means, seen so in a value.
abbrev pub last_field : {V W : Type 0} → (W → V) → Der V → FieldList W
last_field view d = record {
  Meaning = d.Meaning;
  meaning = λ w. d.meaning (view w);
  fields = last (encoding_of d);
  laws = last_laws d.laws;
}

-- What a row means: its first field, and then the row after it.
abbrev pub first_field : {V U W : Type 0} → (W → V) → Der V → (W → U) → FieldList U → FieldList W
first_field view d rest others = record {
  Meaning = d.Meaning × others.Meaning;
  meaning = λ w. (d.meaning (view w), others.meaning (rest w));
  fields = field (encoding_of d) others.fields;
  laws = field_laws d.laws others.laws;
}

-- What reading fields with these names from the octets returns.
abbrev pub ReadsRow : {V : Type 0} → FieldList V → List (List ℕ) → List ℕ → Result V ReadError → Type 0
ReadsRow row names octets result = Returns row.meaning (row.fields.runs_out names octets) result (row.fields.read names octets)

-- Reading returns the same as either of the two says.
abbrev pub IsReadAs : {V : Type 0} → FieldList V → FieldList V → Type 0
IsReadAs {V} a b = (names : List (List ℕ)) (octets : List ℕ) (result : Result V ReadError) → ReadsRow a names octets result ↔ ReadsRow b names octets result

-- one of these errors, for an item that defines this value
abbrev pub ItemErrors : {T V E : Type 0} → ItemAndValue T V → V → (T → E → Type 0) → E → Type 0
ItemErrors {T} both v errors e = (item : T) × (both.item.meaning item ≡ both.value.item (both.value.meaning v)) × errors item e

-- What the fields after an item mean, one of which the item defines, together with the item.
pub record BehindItem (T V : Type 0) : Type 1 where
  pub item : Der T
  pub Meaning : Type 0
  pub meaning : V → Meaning
  pub fields : FieldsBy item.Meaning Meaning
  pub laws : FieldsByLaws fields

-- What follows an item, if it is the value that the item defines and nothing else.
abbrev pub value_last_behind : {T V W : Type 0} → (W → V) → ItemAndValue T V → BehindItem T W
value_last_behind view both = record {
  item = both.item;
  Meaning = both.value.Meaning;
  meaning = λ w. both.value.meaning (view w);
  fields = value_last (defined_encoding both.value);
  laws = value_last_laws both.value.laws;
}

-- What follows an item, if it is the value that the item defines and then other fields.
abbrev pub value_behind : {T V U W : Type 0} → (W → V) → ItemAndValue T V → (W → U) → FieldList U → BehindItem T W
value_behind view both rest others = record {
  item = both.item;
  Meaning = both.value.Meaning × others.Meaning;
  meaning = λ w. (both.value.meaning (view w), others.meaning (rest w));
  fields = value_field (defined_encoding both.value) others.fields;
  laws = value_field_laws both.value.laws others.laws;
}

-- What follows an item, if it is a field and then a row with the value that the item defines.
abbrev pub before_behind : {T A U W : Type 0} → (W → A) → Der A → (W → U) → BehindItem T U → BehindItem T W
before_behind view d rest behind = record {
  item = behind.item;
  Meaning = d.Meaning × behind.Meaning;
  meaning = λ w. (d.meaning (view w), behind.meaning (rest w));
  fields = between (encoding_of d) behind.fields;
  laws = between_laws d.laws behind.laws;
}

-- Reading an item and the fields after it returns the same as either of the two says. Each abstract value of an item is
-- mapped from the first to the second.
pub record IsReadBehind {T V : Type 0} (a b : BehindItem T V) : Type 0 where
  pub stands_for : a.item.Meaning → b.item.Meaning
  pub item : (octets : List ℕ) → b.item.read octets ≡ seen_front stands_for (a.item.read octets)
  pub item_runs_out : (octets : List ℕ) (places : List Place) → a.item.runs_out octets places ↔ b.item.runs_out octets places
  pub fields : (names : List (List ℕ)) (m : a.item.Meaning) (octets : List ℕ) (result : Result V ReadError) →
      Returns a.meaning (a.fields.runs_out names m octets) result (a.fields.read names m octets)
      ↔ Returns b.meaning (b.fields.runs_out names (stands_for m) octets) result (b.fields.read names (stands_for m) octets)

-- An item and the fields after it have one encoding for each value.
abbrev pub IsPlainBehind : {T V : Type 0} → BehindItem T V → Type 0
IsPlainBehind behind = behind.item.plain × behind.fields.plain

-- They are read, and not only written.
abbrev pub AreReadBehind : {T V : Type 0} → BehindItem T V → Type 0
AreReadBehind behind = behind.item.is_read × behind.fields.is_read

-- An item, and the fields after it.
abbrev pub item_list : {T U W : Type 0} → (W → U) → BehindItem T U → FieldList W
item_list rest behind = record {
  Meaning = behind.Meaning;
  meaning = λ w. behind.meaning (rest w);
  fields = with_item (encoding_of behind.item) behind.fields;
  laws = with_item_laws behind.item.laws behind.laws;
}

-- ---- structures

-- A sequence of a row's fields with these names. Each value is seen as this row.
abbrev pub structure : {V W : Type 0} → (W → V) → FieldList V → List (List ℕ) → Der W
structure view row names = der_of (λ w. row.meaning (view w)) (simple_encoding (sequence row.fields names)) (structure_laws names row.laws)

-- A set of a row's fields with these names (8.11) under this tag, for example that of an application (8.14.3). It is
-- lawful only if each field has one tag, which comes after that of the field before it (10.3).
abbrev pub set_structure_with_tag : {V W : Type 0} → Tag → (W → V) → FieldList V → List (List ℕ) → Der W
set_structure_with_tag tag view row names = der_of (λ w. row.meaning (view w)) (simple_encoding (set_fields tag row.fields names)) (set_structure_laws tag names row.laws)

-- The same under the tag of a set.
abbrev pub set_structure : {V W : Type 0} → (W → V) → FieldList V → List (List ℕ) → Der W
set_structure view row names = set_structure_with_tag set_tag view row names

-- The same as `structure` under another tag, for example that of an application (8.14.3). With the tag of a set it isn't
-- lawful: a set is a `set_structure`.
abbrev pub structure_with_tag : {V W : Type 0} → Tag → (W → V) → FieldList V → List (List ℕ) → Der W
structure_with_tag tag view row names = der_of (λ w. row.meaning (view w)) (simple_encoding (tagged_fields tag row.fields names)) (structure_with_tag_laws tag names row.laws)

-- The encodings that a write of a field's value may append.
abbrev pub encoded : {V : Type 0} → Der V → V → List ℕ → Type 0
encoded d v = d.encodings (d.meaning v)

-- What a write of a field's value requires of the closures in it.
abbrev pub owed : {V : Type 0} → Der V → V → Type 0
owed d v = d.closures (d.meaning v)

-- What is written, and what is required of closures, is as these say of the meaning.
abbrev pub IsWrittenAs : {P M : Type 0} → (M → List ℕ → Type 0) → (M → Type 0) → (P → M) → (P → List ℕ → Type 0) → (P → Type 0) → Type 0
IsWrittenAs {P} texts closures meaning encodings owes = ((v : P) (octets : List ℕ) → encodings v octets ↔ texts (meaning v) octets) × ((v : P) → owes v ↔ closures (meaning v))

-- The same of a value that is seen as one of another type.
abbrev pub IsEncoded : {P V : Type 0} → Der V → (P → V) → (P → List ℕ → Type 0) → (P → Type 0) → Type 0
IsEncoded d wrap = IsWrittenAs d.encodings d.closures (λ v. d.meaning (wrap v))

-- ---- values of a struct's fields as a row has them: under a tag, or with a default

-- A value under its explicit tag, as a row has it.
abbrev pub explicit : {T : Type 0} {tag : ℕ} → T → Explicit T tag
explicit x = record { inner = x }

-- A value under its implicit tag, as a row has it.
abbrev pub implicit : {T : Type 0} {tag : ℕ} → T → Implicit T tag
implicit x = record { inner = x }

-- A value beside its default, as a row has it.
abbrev pub defaulted : {T D : Type 0} → T → Defaulted T D
defaulted x = record { inner = x; default = record {} }

-- ---- rows of these values

-- A row of no fields.
abbrev pub fields0 : NoFields
fields0 = record {}

-- A row of one field.
abbrev pub fields1 : {A : Type 0} → A → Last A
fields1 a = record { value = a }

-- A row of two fields.
abbrev pub fields2 : {A B : Type 0} → A → B → Field A (Last B)
fields2 a b = record { value = a; rest = fields1 b }

-- A row of three fields.
abbrev pub fields3 : {A B C : Type 0} → A → B → C → Field A (Field B (Last C))
fields3 a b c = record { value = a; rest = fields2 b c }

-- A row of four fields.
abbrev pub fields4 : {A B C D : Type 0} → A → B → C → D → Field A (Field B (Field C (Last D)))
fields4 a b c d = record { value = a; rest = fields3 b c d }

-- A row of five fields.
abbrev pub fields5 : {A B C D E : Type 0} → A → B → C → D → E → Field A (Field B (Field C (Field D (Last E))))
fields5 a b c d e = record { value = a; rest = fields4 b c d e }

-- A row of six fields.
abbrev pub fields6 : {A B C D E F : Type 0} → A → B → C → D → E → F → Field A (Field B (Field C (Field D (Field E (Last F)))))
fields6 a b c d e f = record { value = a; rest = fields5 b c d e f }

-- A row of seven fields.
abbrev pub fields7 : {A B C D E F G : Type 0} → A → B → C → D → E → F → G → Field A (Field B (Field C (Field D (Field E (Field F (Last G))))))
fields7 a b c d e f g = record { value = a; rest = fields6 b c d e f g }

-- A row of eight fields.
abbrev pub fields8 : {A B C D E F G H : Type 0} → A → B → C → D → E → F → G → H → Field A (Field B (Field C (Field D (Field E (Field F (Field G (Last H)))))))
fields8 a b c d e f g h = record { value = a; rest = fields7 b c d e f g h }

-- A row of nine fields.
abbrev pub fields9 : {A B C D E F G H I : Type 0} → A → B → C → D → E → F → G → H → I → Field A (Field B (Field C (Field D (Field E (Field F (Field G (Field H (Last I))))))))
fields9 a b c d e f g h i = record { value = a; rest = fields8 b c d e f g h i }

-- A row of ten fields.
abbrev pub fields10 : {A B C D E F G H I J : Type 0} → A → B → C → D → E → F → G → H → I → J → Field A (Field B (Field C (Field D (Field E (Field F (Field G (Field H (Field I (Last J)))))))))
fields10 a b c d e f g h i j = record { value = a; rest = fields9 b c d e f g h i j }

-- A row of eleven fields.
abbrev pub fields11 : {A B C D E F G H I J K : Type 0} → A → B → C → D → E → F → G → H → I → J → K → Field A (Field B (Field C (Field D (Field E (Field F (Field G (Field H (Field I (Field J (Last K))))))))))
fields11 a b c d e f g h i j k = record { value = a; rest = fields10 b c d e f g h i j k }

-- A row of twelve fields.
abbrev pub fields12 : {A B C D E F G H I J K L : Type 0} → A → B → C → D → E → F → G → H → I → J → K → L → Field A (Field B (Field C (Field D (Field E (Field F (Field G (Field H (Field I (Field J (Field K (Last L)))))))))))
fields12 a b c d e f g h i j k l = record { value = a; rest = fields11 b c d e f g h i j k l }

-- A row of thirteen fields.
abbrev pub fields13 : {A B C D E F G H I J K L M : Type 0} → A → B → C → D → E → F → G → H → I → J → K → L → M → Field A (Field B (Field C (Field D (Field E (Field F (Field G (Field H (Field I (Field J (Field K (Field L (Last M))))))))))))
fields13 a b c d e f g h i j k l m = record { value = a; rest = fields12 b c d e f g h i j k l m }

-- A row of fourteen fields.
abbrev pub fields14 : {A B C D E F G H I J K L M N : Type 0} → A → B → C → D → E → F → G → H → I → J → K → L → M → N → Field A (Field B (Field C (Field D (Field E (Field F (Field G (Field H (Field I (Field J (Field K (Field L (Field M (Last N)))))))))))))
fields14 a b c d e f g h i j k l m n = record { value = a; rest = fields13 b c d e f g h i j k l m n }

-- A row of fifteen fields.
abbrev pub fields15 : {A B C D E F G H I J K L M N O : Type 0} → A → B → C → D → E → F → G → H → I → J → K → L → M → N → O → Field A (Field B (Field C (Field D (Field E (Field F (Field G (Field H (Field I (Field J (Field K (Field L (Field M (Field N (Last O))))))))))))))
fields15 a b c d e f g h i j k l m n o = record { value = a; rest = fields14 b c d e f g h i j k l m n o }

-- A row of sixteen fields.
abbrev pub fields16 : {A B C D E F G H I J K L M N O P : Type 0} → A → B → C → D → E → F → G → H → I → J → K → L → M → N → O → P → Field A (Field B (Field C (Field D (Field E (Field F (Field G (Field H (Field I (Field J (Field K (Field L (Field M (Field N (Field O (Last P)))))))))))))))
fields16 a b c d e f g h i j k l m n o p = record { value = a; rest = fields15 b c d e f g h i j k l m n o p }
