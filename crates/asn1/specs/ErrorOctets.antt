-- At which octet an input is rejected, as what rejects it shows: inputs that begin alike are rejected alike, or not.
use Rattle.std.specs.Prelude.{◌≡◌, ◌⊎◌, ◌<◌, ◌+◌, ◌≤◌, ℕ, zero, suc, nat_lt, if◌then◌else◌, List, ◌++◌, ◌-◌, take, drop, set, replicate, length, Bool, true, false, not, ◌&&◌, ◌||◌, nat_eq, Option, Some, None, Result, Ok, Err}
use Rattle.asn1_core.specs.declared.parser.ParseErrorKind.{ParseErrorKind}
use Rattle.asn1_core.specs.declared.parser.ParseErrorKind.TheVariants.{InvalidTag, InvalidLength, ShortData, ExtraData, UnexpectedTag, InvalidSetOrdering}
use Rattle.asn1_core.specs.declared.tag.Tag.{Tag}
use Rattle.std.specs.Cmp.Lexicographic.{pointwise}
use Rattle.asn1_core.specs.ReadError.{ReadError, place_eq}
use Rattle.asn1_core.specs.Element.{Element, leading_element}
use Rattle.asn1_core.specs.Tag.{first_octet, leading_tag, tag_constructed, tag_eq, tag_number}

-- The octets, of which the first `count` are kept, and each other is replaced by `other`.
abbrev pub kept : ℕ → ℕ → List ℕ → List ℕ
kept count other octets = take count octets ++ replicate (length octets - count) other

-- What replaces octets to find an error of this kind. No error of the kind begins with it.
abbrev pub replacement : ParseErrorKind → ℕ
replacement InvalidTag = 127
replacement InvalidLength = 127
replacement (ShortData needed) = 0
replacement kind = 255

-- The octets from `start` to `end` are an element.
abbrev pub IsElement : List ℕ → ℕ → ℕ → Type 0
IsElement octets start end = (element : Element) × (rest : List ℕ) × (leading_element (drop start octets) ≡ Ok (element, rest)) × (end ≡ length octets - length rest)

-- What is made of the octets behind an element, if there is one.
abbrev pub if_element : Result (Element × List ℕ) ParseErrorKind → (List ℕ → Option ℕ) → Option ℕ
if_element (Ok found) next = next found.1
if_element (Err kind) next = None

-- Of elements one after another, where the one begins that has this octet, if there is one. There are `size` octets in all,
-- of which `rest` are behind those that were passed; at most `most` elements are tried.
abbrev pub element_with : ℕ → ℕ → ℕ → ℕ → List ℕ → Option ℕ
element_with zero size octet start rest = None
element_with (suc most) size octet start rest = if_element (leading_element rest) (λ behind. if nat_lt octet (size - length behind) then Some start else element_with most size octet (size - length behind) behind)

-- The octets behind elements one after another: the first of them begin no element. At most `most` elements are passed.
abbrev pub behind_elements : ℕ → List ℕ → List ℕ
behind_elements zero rest = rest
behind_elements (suc most) rest = elim (leading_element rest) as (λ _. List ℕ) [
  | Ok found ↦ behind_elements most found.1
  | Err kind ↦ rest
]

-- The contents octets of the first element of the octets that begin at `start`, and where they begin, if the element is
-- constructed and has this octet in them, or is empty.
abbrev pub contents_at : List ℕ → ℕ → ℕ → Option (ℕ × List ℕ)
contents_at octets octet start = elim (leading_element (drop start octets)) as (λ _. Option (ℕ × List ℕ)) [
  | Ok found ↦ let begin = length octets - length found.1 - length found.0.content in
      if tag_constructed found.0.tag && (not (nat_lt octet begin) || nat_eq (length found.0.content) 0) then Some (begin, found.0.content) else None
  | Err kind ↦ None
]

-- Of elements one after another, the contents octets of the constructed one that has this octet in them, or is empty and
-- has it; and where these begin.
abbrev pub contents_with : List ℕ → ℕ → Option (ℕ × List ℕ)
contents_with octets octet = elim (element_with (length octets) (length octets) octet 0 octets) as (λ _. Option (ℕ × List ℕ)) [
  | None ↦ None
  | Some start ↦ contents_at octets octet start
]

-- The contents octets of the innermost constructed element that has this octet in them, or all octets if none has: where
-- they begin, they, and where in them the octet is. At most so many elements are gone into.
abbrev pub innermost : ℕ → ℕ → List ℕ → ℕ → ℕ × (List ℕ × ℕ)
innermost zero begin octets octet = (begin, (octets, octet))
innermost (suc depth) begin octets octet = elim (contents_with octets octet) as (λ _. ℕ × (List ℕ × ℕ)) [
  | None ↦ (begin, (octets, octet))
  | Some inner ↦ innermost depth (begin + inner.0) inner.1 (octet - inner.0)
]

-- The elements before this octet end there, within the constructed elements around it: an element is to begin.
abbrev pub IsBeginning : List ℕ → ℕ → Type 0
IsBeginning octets octet = let around = innermost (length octets) 0 octets octet in
    around.1.1 ≡ length around.1.0 - length (behind_elements (length around.1.0) around.1.0)

-- Whether an input in which an element has a wrong length is rejected for that, at the location of the error.
abbrev pub has_wrong_length : ReadError → Option ReadError → Bool
has_wrong_length error None = false
has_wrong_length error (Some other) = elim other.kind as (λ _. Bool) [
  | InvalidLength ↦ pointwise place_eq other.places error.places
  | _ ↦ false
]

-- `rejects` relates an input to the error with which it may be rejected, or to `None`.
module _ (rejects : List ℕ → Option ReadError → Type 0) (octets : List ℕ) (error : ReadError) where
  -- The first octets decide the error: if the others are replaced, it is the same.
  abbrev pub Decide : ℕ → Type 0
  Decide count = rejects (kept count (replacement error.kind) octets) (Some error)

  -- The first octets leave it open: if the others are replaced, there is another error, or none.
  abbrev pub LeaveOpen : ℕ → Type 0
  LeaveOpen count = (other : Option ReadError) × rejects (kept count (replacement error.kind) octets) other × (other ≡ Some error → ⊥)

  -- The last of these octets turns the error: they decide it, and with one less it is open.
  abbrev pub IsTurn : ℕ → Type 0
  IsTurn count = (0 < count) × Decide count × LeaveOpen (count - 1)

  -- Whether the element at this octet is read at the location of the error, as a wrong length of it shows.
  abbrev pub IsReadThere : Bool → ℕ → Type 0
  IsReadThere answer start = (tag : Tag) × (after : List ℕ) × (other : Option ReadError) × (leading_tag (drop start octets) ≡ Ok (tag, after))
      × rejects (kept (length octets - length after) 255 octets) other × (answer ≡ has_wrong_length error other)

  -- No element within this one is read there that has the last of `count` octets. The contents octets begin at `start`.
  abbrev pub IsInnermost : Element → ℕ → ℕ → Type 0
  IsInnermost element start count = (tag_constructed element.tag ≡ true) → start < count →
      elim (element_with (length element.content) (length element.content) (count - 1 - start) 0 element.content) as (λ _. Type 0) [
        | None ↦ Unit {0}
        | Some inner ↦ IsReadThere false (start + inner)
      ]

  -- An element begins at this octet. The octets before it leave the error open, and those up to its end decide it. Of
  -- those that have the octet that turns the error it is the innermost that is read at the location of the error.
  pub record IsWrongElement (octet : ℕ) : Type 0 where
    pub element : Element
    pub rest : List ℕ
    pub is : leading_element (drop octet octets) ≡ Ok (element, rest)
    pub left_open : LeaveOpen octet
    pub decided : Decide (length octets - length rest)
    pub count : ℕ
    pub turn : IsTurn count
    pub behind : octet < count
    pub before : count ≤ length octets - length rest
    pub there : IsReadThere true octet
    pub innermost : IsInnermost element (length octets - length rest - length element.content) count

  -- An element is to begin at this octet, its framing fails with the error's kind, and the octets before it leave the
  -- error open.
  abbrev pub IsWrongHeader : ℕ → Type 0
  IsWrongHeader octet = IsBeginning octets octet × (leading_element (drop octet octets) ≡ Err error.kind) × LeaveOpen octet

  -- The innermost constructed element around `place` ends at this octet, or the input does; but if the element in it that
  -- has `place` is read at the location of the error, as an octet string is that holds an encoding, this one does.
  abbrev pub EndsAround : ℕ → ℕ → Type 0
  EndsAround place octet = let around = innermost (length octets) 0 octets place in
      elim (element_with (length around.1.0) (length around.1.0) around.1.1 0 around.1.0) as (λ _. Type 0) [
        | None ↦ octet ≡ around.0 + length around.1.0
        | Some start ↦ ((octet ≡ around.0 + length around.1.0) × IsReadThere false (around.0 + start))
            ⊎ ((end : ℕ) × IsElement around.1.0 start end × (octet ≡ around.0 + end) × IsReadThere true (around.0 + start))
      ]

  -- Octets are missing here. The octets before this one decide the error, whatever is in place of the others; and what is
  -- around the octet that turns the error ends here. If no octet is needed, the input does.
  pub record IsEnd (octet : ℕ) : Type 0 where
    pub decided : Decide octet
    pub always : rejects (kept octet 255 octets) (Some error)
    pub ends : (Decide 0 × (octet ≡ length octets)) ⊎ ((count : ℕ) × IsTurn count × EndsAround (count - 1) octet)

  -- The octets from this one on are left over. Those before it decide the error; and an element ends here, or its contents
  -- octets begin here, of which not even the header may be left out: a wrong length of it leaves the error open.
  pub record IsFirstLeft (octet : ℕ) : Type 0 where
    pub start : ℕ
    pub element : Element
    pub rest : List ℕ
    pub is : leading_element (drop start octets) ≡ Ok (element, rest)
    pub tag : Tag
    pub after : List ℕ
    pub tag_is : leading_tag (drop start octets) ≡ Ok (tag, after)
    pub behind : (octet ≡ length octets - length rest) ⊎ (octet ≡ length octets - length rest - length element.content)
    pub needed : LeaveOpen (length octets - length after)
    pub decided : Decide octet

  -- The error is at this octet.
  abbrev pub IsErrorOctet : ℕ → Type 0
  IsErrorOctet octet = elim error.kind as (λ _. Type 0) [
    | ShortData needed ↦ IsEnd octet
    | ExtraData ↦ IsFirstLeft octet
    | InvalidTag ↦ IsWrongHeader octet
    | InvalidLength ↦ IsWrongHeader octet
    | _ ↦ IsWrongElement octet
  ]

-- The octets up to `end`, of which one is replaced by the identifier octet of a tag, and zeros from there on.
abbrev pub with_tag : ℕ → ℕ → Tag → List ℕ → List ℕ
with_tag octet end tag octets = set (kept end 0 octets) octet (first_octet tag (tag_number tag))

-- Whether an input with the tag is rejected for something else, if at all: neither is the tag unexpected where the
-- error was, nor does it come too late in a set.
abbrev pub takes_tag : Tag → ReadError → Option ReadError → Bool
takes_tag tag error None = true
takes_tag tag error (Some other) = elim other.kind as (λ _. Bool) [
  | UnexpectedTag actual ↦ not (tag_eq actual tag && pointwise place_eq other.places error.places)
  | InvalidSetOrdering ↦ false
  | _ ↦ true
]
