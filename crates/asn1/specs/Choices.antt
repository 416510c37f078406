-- Choices: an element that is read as the first alternative that accepts its tag (X.680 29).
use Rattle.std.specs.Prelude.{ℕ, ◌≡◌, ◌⊎◌, ◌||◌, List, [], Result, Ok, Err, IfErr, Bool, true, false}
use Rattle.asn1_core.specs.declared.tag.Tag.{Tag}
use Rattle.asn1_core.specs.declared.parser.Place.{Place}
use Rattle.asn1_core.specs.declared.parser.ParseErrorKind.TheVariants.{UnexpectedTag}
use Rattle.asn1_core.specs.Base256.{IsOctets}
use Rattle.asn1_core.specs.Element.{Element, element_encoding, IsReadable, ◌>>=◌}
use Rattle.asn1_core.specs.ReadError.{ReadError, read_error, IsOfInput}
use Rattle.asn1_core.specs.Reading.{IsOneElement, IsNothingOrElement, simple_stops}
use Rattle.asn1_core.specs.Apart.{HasOneTagOutside, tags_of}
use Rattle.asn1_core.specs.Encoding.{Encoding, no_content}
use Rattle.asn1.specs.Among.{Among3, Among8, three, three_encoding, eight, eight_encoding, among_three, among_eight}
use Rattle.asn1.specs.Alternatives.{Disjoint, either, either_encoding, only_read, or_read, only_out, or_out, choice_read, choice_out}

-- One or more alternatives, whose abstract values are an M: what an element is read as.
pub record Alternatives (M : Type 0) : Type 1 where
  pub encoding : M → List ℕ
  pub encodings : M → List ℕ → Type 0
  pub closures : M → Type 0
  pub valid : M → Type 0
  pub allowed : M → Type 0
  pub bounded : Type 0
  pub plain : Type 0
  pub lawful : Type 0
  -- no alternative accepts one of these tags
  pub apart_from : (Tag → Bool) → Type 0
  -- each alternative is lawful, and no other accepts one of its tags
  pub each_apart : Type 0
  pub takes_memory : Type 0
  pub is_read : Type 0
  pub runs_out : Element → List Place → Type 0
  pub accepts : Tag → Bool
  pub read : Element → Result M ReadError

-- A lawful alternative, none of whose tags those after it accept. Of one with one tag, or before such ones, this is
-- computed. These are records, and no tuple: the prover's search doesn't find one that is nested 36 deep.
pub record IsApart {M N : Type 0} (d : Encoding M) (others : Alternatives N) : Type 0 where
  pub lawful : d.lawful
  pub is_element : d.is_element
  pub tags : HasOneTagOutside others.accepts (tags_of d) ⊎ others.apart_from d.accepts

-- an alternative, and those after it
pub record OneApart {M N : Type 0} (d : Encoding M) (others : Alternatives N) : Type 0 where
  pub first : IsApart d others
  pub rest : others.each_apart

-- the laws of alternatives
pub record AlternativesLaws {M : Type 0} (a : Alternatives M) : Type 0 where
  pub one_encoding : a.plain → (m : M) (t : List ℕ) → a.encodings m t → t ≡ a.encoding m
  pub has_encoding : a.plain → (m : M) → a.valid m → a.encodings m (a.encoding m)
  pub at_most_one : (m : M) (t : List ℕ) → a.encodings m t → IsNothingOrElement t
  pub no_closures : a.plain → (m : M) → a.closures m
  pub consumes : (e : Element) (m : M) → IsOctets (element_encoding e) → a.read e ≡ Ok m → (element_encoding e ≡ a.encoding m) × (a.valid m × a.allowed m)
  pub disjoint : (tags : Tag → Bool) → a.apart_from tags → Disjoint tags a.accepts
  pub lawful_if_apart : a.each_apart → a.lawful
  pub nothing_or_element : (m : M) → a.lawful → a.valid m → IsOneElement (a.encoding m)
  pub accepted : (m : M) (e : Element) → a.valid m → a.encoding m ≡ element_encoding e → a.accepts e.tag ≡ true
  pub read_back : (m : M) (e : Element) → a.lawful → a.valid m → a.allowed m → IsReadable e → a.encoding m ≡ element_encoding e → a.read e ≡ Ok m
  pub one_value : a.is_read → (m n : M) → a.lawful → a.valid m → a.valid n → a.encoding m ≡ a.encoding n → m ≡ n
  pub unbounded : (a.bounded → ⊥) → (m : M) → a.valid m → a.allowed m
  pub memory : (e : Element) (places : List Place) → a.runs_out e places → a.takes_memory
  pub errors : (e : Element) → IfErr (a.read e) IsOfInput

-- one alternative
abbrev pub only : {A : Type 0} → (d : Encoding A) → Alternatives A
only d = record {
  encoding = d.encoding;
  encodings = d.encodings;
  closures = d.closures;
  valid = d.valid;
  allowed = d.allowed;
  bounded = d.bounded;
  plain = d.plain;
  lawful = d.lawful × d.is_element;
  apart_from = λ tags. HasOneTagOutside tags (tags_of d) ⊎ Disjoint tags d.accepts;
  each_apart = d.lawful × d.is_element;
  takes_memory = d.takes_memory;
  is_read = d.is_read;
  runs_out = only_out d.accepts d.runs_out;
  accepts = d.accepts;
  read = only_read d.accepts d.read;
}

-- one alternative before others
abbrev pub or : {A N : Type 0} → (d : Encoding A) → Alternatives N → Alternatives (A ⊎ N)
or d c = record {
  encoding = either_encoding d.encoding c.encoding;
  encodings = either d.encodings c.encodings;
  closures = either d.closures c.closures;
  valid = either d.valid c.valid;
  allowed = either d.allowed c.allowed;
  bounded = d.bounded ⊎ c.bounded;
  plain = d.plain × c.plain;
  lawful = d.lawful × d.is_element × c.lawful × Disjoint d.accepts c.accepts;
  apart_from = λ tags. (HasOneTagOutside tags (tags_of d) ⊎ Disjoint tags d.accepts) × c.apart_from tags;
  each_apart = OneApart d c;
  takes_memory = d.takes_memory ⊎ c.takes_memory;
  is_read = d.is_read × c.is_read;
  runs_out = or_out d.accepts d.runs_out c.runs_out;
  accepts = λ t. d.accepts t || c.accepts t;
  read = or_read d.accepts d.read c.read;
}

-- The same alternatives, whose abstract values are made of theirs by `view`: what is stated of these values is given.
abbrev pub viewed_alternatives : {M N : Type 0} → (M → N) → Alternatives M → (N → List ℕ) → (N → List ℕ → Type 0) → (N → Type 0) → (N → Type 0) → (N → Type 0) → Type 0 → Alternatives N
viewed_alternatives view c encoding encodings closures valid allowed each_apart = record {
  encoding = encoding;
  encodings = encodings;
  closures = closures;
  valid = valid;
  allowed = allowed;
  bounded = c.bounded;
  plain = c.plain;
  lawful = c.lawful;
  apart_from = c.apart_from;
  each_apart = each_apart;
  takes_memory = c.takes_memory;
  is_read = c.is_read;
  runs_out = c.runs_out;
  accepts = c.accepts;
  read = λ e. c.read e >>= λ m. Ok (view m);
}

-- three alternatives, and those after them
pub record ThreeApart {A B C R : Type 0} (a : Encoding A) (b : Encoding B) (c : Encoding C) (others : Alternatives R) : Type 0 where
  pub first : IsApart a (or b (or c others))
  pub second : IsApart b (or c others)
  pub third : IsApart c others
  pub rest : others.each_apart

-- three alternatives before others, as if they came one by one
abbrev pub or_three : {A B C R : Type 0} → Encoding A → Encoding B → Encoding C → Alternatives R → Alternatives (Among3 A B C R)
or_three a b c others = viewed_alternatives among_three (or a (or b (or c others)))
    (three_encoding a.encoding b.encoding c.encoding others.encoding)
    (three a.encodings b.encodings c.encodings others.encodings)
    (three a.closures b.closures c.closures others.closures)
    (three a.valid b.valid c.valid others.valid)
    (three a.allowed b.allowed c.allowed others.allowed)
    (ThreeApart a b c others)

-- eight alternatives, and those after them
pub record EightApart {A B C D E F G H R : Type 0} (a : Encoding A) (b : Encoding B) (c : Encoding C) (d : Encoding D) (e : Encoding E) (f : Encoding F) (g : Encoding G) (h : Encoding H) (others : Alternatives R) : Type 0 where
  pub first : IsApart a (or b (or c (or d (or e (or f (or g (or h others)))))))
  pub second : IsApart b (or c (or d (or e (or f (or g (or h others))))))
  pub third : IsApart c (or d (or e (or f (or g (or h others)))))
  pub fourth : IsApart d (or e (or f (or g (or h others))))
  pub fifth : IsApart e (or f (or g (or h others)))
  pub sixth : IsApart f (or g (or h others))
  pub seventh : IsApart g (or h others)
  pub eighth : IsApart h others
  pub rest : others.each_apart

-- eight alternatives before others, as if they came one by one
abbrev pub or_eight : {A B C D E F G H R : Type 0} → Encoding A → Encoding B → Encoding C → Encoding D → Encoding E → Encoding F → Encoding G → Encoding H → Alternatives R → Alternatives (Among8 A B C D E F G H R)
or_eight a b c d e f g h others = viewed_alternatives among_eight (or a (or b (or c (or d (or e (or f (or g (or h others))))))))
    (eight_encoding a.encoding b.encoding c.encoding d.encoding e.encoding f.encoding g.encoding h.encoding others.encoding)
    (eight a.encodings b.encodings c.encodings d.encodings e.encodings f.encodings g.encodings h.encodings others.encodings)
    (eight a.closures b.closures c.closures d.closures e.closures f.closures g.closures h.closures others.closures)
    (eight a.valid b.valid c.valid d.valid e.valid f.valid g.valid h.valid others.valid)
    (eight a.allowed b.allowed c.allowed d.allowed e.allowed f.allowed g.allowed h.allowed others.allowed)
    (EightApart a b c d e f g h others)

-- no alternative: each tag is unexpected
abbrev pub none : Alternatives ⊥
none = record {
  encoding = λ m. [];
  encodings = λ m t. ⊥;
  closures = λ m. Unit {0};
  valid = λ m. Unit {0};
  allowed = λ m. Unit {0};
  bounded = ⊥;
  plain = Unit {0};
  lawful = Unit {0};
  apart_from = λ tags. Unit {0};
  each_apart = Unit {0};
  takes_memory = ⊥;
  is_read = Unit {0};
  runs_out = λ e places. ⊥;
  accepts = λ tag. false;
  read = λ e. Err (read_error (UnexpectedTag e.tag));
}

-- The encodings of a type whose values are those of alternatives.
abbrev pub choice_encoding : {M : Type 0} → Alternatives M → Encoding M
choice_encoding c = record {
  encoding = c.encoding;
  encodings = c.encodings;
  closures = c.closures;
  valid = c.valid;
  allowed = c.allowed;
  bounded = c.bounded;
  plain = c.plain;
  lawful = c.lawful;
  is_element = Unit {0};
  takes_memory = c.takes_memory;
  is_read = c.is_read;
  runs_out = choice_out c.runs_out;
  accepts = c.accepts;
  read = choice_read c.read;
  stops = simple_stops;
  is_simple = ⊥;
  content = no_content;
}
