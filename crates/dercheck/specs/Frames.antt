-- The framing of a whole input, and the lines that are written for it.
use Rattle.std.specs.Prelude.{◌≡◌, ℕ, ◌≤◌, ◌⊎◌, ◌↔◌, IsTrue, Bool, List, [], ◌∷◌, ◌++◌, length, codes, decimal, Option, Result, Ok, Err, IsErr, take, ◌+◌, ◌-◌, ◌^◌, ◌<◌, true, false, slice_index}
use Rattle.std.specs.List.{AllByRecursion, flat_map}
use Rattle.std.specs.Io.KnownBytes.{Appends, Consumes, IsAtEnd}
use Rattle.hex.specs.Hex.{encode_lower}
use Rattle.asn1.specs.declared.ParseErrorKind.{ParseErrorKind}
use Rattle.asn1.specs.declared.ParseErrorKind.TheVariants.{InvalidTag, InvalidLength, ShortData}
use Rattle.asn1.specs.Base256.{IsOctets}
use Rattle.asn1.specs.Tag.{identifier_octets, tag_number, leading_tag}
use Rattle.asn1.specs.Element.{Element, element_encoding, IsReadable, leading_element}
use Rattle.asn1.specs.Laws.{IsShort}
use Rattle.asn1.specs.declared.Tag.{Tag}
use Rattle.asn1.specs.Length.{length_octets}
use Rattle.dercheck.specs.Streams.{AppendsInPart}
use Rattle.dercheck.specs.declared.frame_lines.Lines.{Lines}
use Rattle.dercheck.specs.declared.pending.Pending.{Pending}
use Rattle.dercheck.specs.declared.pending.Progress.{Progress}
use Rattle.dercheck.specs.declared.pending.Progress.TheVariants.{GoesOn, Completes, Fails}
use Rattle.dercheck.specs.declared.header.Header.{Header}
use Rattle.dercheck.specs.declared.header.Header.TheVariants.{Open, Whole, Faulty}

-- The octets are readable elements one after another, and then the remaining octets, which begin with none.
pub record IsFraming (octets : List ℕ) (elements : List Element) (rest : List ℕ) : Type 0 where
  pub readable : AllByRecursion IsReadable elements
  pub whole : octets ≡ flat_map element_encoding elements ++ rest
  pub stops : IsErr (leading_element rest)

-- The remaining octets are only too short, or there are none.
abbrev pub IsUnfinished : List ℕ → Type 0
IsUnfinished rest = IsShort (leading_element rest)

-- Octets whose framing meets no error.
abbrev pub HasNoFault : List ℕ → Type 0
HasNoFault octets = (elements : List Element) × (rest : List ℕ) × IsFraming octets elements rest × IsUnfinished rest

-- The line of an element: its identifier octets in hex, a space, and the number of its contents octets in decimal.
abbrev pub line_of : List ℕ → ℕ → List ℕ
line_of tag n = encode_lower tag ++ codes " " ++ decimal n ++ codes "\n"

abbrev pub element_line : Element → List ℕ
element_line e = line_of (identifier_octets e.tag) (length e.content)

-- The line of an error. Framing returns no other kinds, except `ShortData`.
abbrev pub fault_line : ParseErrorKind → List ℕ
fault_line InvalidTag = codes "err InvalidTag\n"
fault_line InvalidLength = codes "err InvalidLength\n"
fault_line _ = []

-- The line of what framing returns where no element begins.
abbrev pub answer_line : Result (Element × List ℕ) ParseErrorKind → List ℕ
answer_line (Ok found) = []
answer_line (Err (ShortData needed)) = codes "short " ++ decimal needed ++ codes "\n"
answer_line (Err kind) = fault_line kind

-- The line of the remaining octets: `short` and what is needed, or `err InvalidTag`, or `err InvalidLength`. If none
-- remain, there is no line.
abbrev pub end_line : List ℕ → List ℕ
end_line [] = []
end_line (octet ∷ octets) = answer_line (leading_element (octet ∷ octets))

-- The lines of a framing.
abbrev pub lines : List Element → List ℕ → List ℕ
lines elements rest = flat_map element_line elements ++ end_line rest

-- Any octets have a framing.
abbrev pub EachTextHasAFraming : Type 0
EachTextHasAFraming = (octets : List ℕ) → IsOctets octets → (elements : List Element) × (rest : List ℕ) × IsFraming octets elements rest

-- No octets have two framings.
abbrev pub TextsHaveOneFraming : Type 0
TextsHaveOneFraming = (octets : List ℕ) (es fs : List Element) (rest other : List ℕ)
    → IsFraming octets es rest → IsFraming octets fs other → (es ≡ fs) × (rest ≡ other)

-- The octets hold an error, and all but at most the last 256 of them hold none.
abbrev pub IsLateFault : List ℕ → List ℕ → Type 0
IsLateFault octets rest = ¬ IsUnfinished rest
    × ((before : List ℕ) × (last : List ℕ) × (octets ≡ before ++ last) × (length last ≤ 256) × HasNoFault before)

-- Octets were read, to the end or up to an error, and the lines of their framing were written. `whole` says that no
-- octets remained.
pub record Framed (left left' held held' : Option (List ℕ)) (whole : Bool) : Type 0 where
  pub octets : List ℕ
  pub elements : List Element
  pub rest : List ℕ
  pub read : Consumes left left' octets
  pub framing : IsFraming octets elements rest
  pub ends : (IsAtEnd left' × IsUnfinished rest) ⊎ IsLateFault octets rest
  pub written : Appends held held' (lines elements rest)
  pub answer : IsTrue whole ↔ (rest ≡ [])

-- Octets without an error were read, and the lines of their elements were written, and no more.
pub record FramedSoFar (left left' held held' : Option (List ℕ)) : Type 0 where
  pub octets : List ℕ
  pub elements : List Element
  pub rest : List ℕ
  pub read : Consumes left left' octets
  pub framing : IsFraming octets elements rest
  pub unfinished : IsUnfinished rest
  pub written : Appends held held' (flat_map element_line elements)

-- Octets were read, and a prefix of the lines of their framing was written.
pub record FramedInPart (left left' held held' : Option (List ℕ)) : Type 0 where
  pub octets : List ℕ
  pub elements : List Element
  pub rest : List ℕ
  pub read : Consumes left left' octets
  pub framing : IsFraming octets elements rest
  pub written : AppendsInPart held held' (lines elements rest)

-- ---- lines that are being made

-- the octets of the lines
abbrev pub line_octets : Lines → List ℕ
line_octets lines = take lines.count lines.octets

-- ---- what the code keeps between two octets, and what this says of the octets so far

-- How many octets follow the first of the length octets, and whether they are all there.
abbrev pub further : List ℕ → ℕ
further octets = slice_index octets 0 - 128

abbrev pub HoldsLength : List ℕ → Type 0
HoldsLength octets = further octets < length octets

-- How many identifier octets there are, and how many octets follow a whole header.
pub record IsSplit (octets : List ℕ) (tag_count content_count : ℕ) : Type 0 where
  pub tag : Tag
  pub after : List ℕ
  pub found : leading_tag octets ≡ Ok (tag, after)
  pub holds : HoldsLength after
  pub tag_octets : tag_count + length after ≡ length octets
  pub content_octets : content_count + further after + 1 ≡ length after

-- Framing returns an element and needs no more octets, or it needs this many.
abbrev pub Needs : List ℕ → ℕ → Type 0
Needs octets needed = (leading_element octets ≡ Err (ShortData needed))
    ⊎ ((found : Element × List ℕ) × (leading_element octets ≡ Ok found) × (needed ≡ 0))

-- An error, which stays the same for every longer input.
pub record IsFault (octets : List ℕ) (kind : ParseErrorKind) : Type 0 where
  pub are_octets : IsOctets octets
  pub long : ¬ IsShort (leading_element octets)
  pub here : leading_element octets ≡ Err kind
  pub stands : (more : List ℕ) → IsOctets more → leading_element (octets ++ more) ≡ Err kind

-- Identifier octets, length octets, and contents octets.
pub record IsBegun (octets : List ℕ) (tag : Tag) (n : ℕ) (content : List ℕ) : Type 0 where
  pub tag_small : tag_number tag < 2 ^ 32
  pub length_small : n < 2 ^ 32
  pub encoded : octets ≡ identifier_octets tag ++ (length_octets n ++ content)

-- What a header says.
pub record IsOpen (octets : List ℕ) (needed : ℕ) : Type 0 where
  pub short : leading_element octets ≡ Err (ShortData needed)
  pub few : length octets ≤ 19
  pub some : 0 < needed

pub record IsWhole (octets : List ℕ) (tag_count count needed : ℕ) : Type 0 where
  pub tag : Tag
  pub n : ℕ
  pub content : List ℕ
  pub begun : IsBegun octets tag n content
  pub tag_octets : take tag_count octets ≡ identifier_octets tag
  pub few : tag_count ≤ 19
  pub within : tag_count ≤ length octets
  pub missing : needed ≡ n - length content
  pub all : count ≡ needed + length content

abbrev pub Says : Header → List ℕ → Type 0
Says (Open needed) octets = IsOpen octets needed
Says (Whole tag_count count needed) octets = IsWhole octets tag_count count needed
Says (Faulty kind) octets = IsFault octets kind

-- The octets that are pending, in the header and in the contents octets.
pub record StandsInHeader (p : Pending) (octets : List ℕ) : Type 0 where
  pub stage : p.in_content ≡ false
  pub kept : octets ≡ take p.count p.octets
  pub short : leading_element octets ≡ Err (ShortData p.needed)

pub record StandsInContent (p : Pending) (octets : List ℕ) : Type 0 where
  pub stage : p.in_content ≡ true
  pub tag : Tag
  pub content : List ℕ
  pub begun : IsBegun octets tag p.content_length content
  pub kept : take p.count p.octets ≡ identifier_octets tag
  pub some : 0 < p.needed
  pub missing : length content + p.needed ≡ p.content_length

abbrev pub Stands : Pending → List ℕ → Type 0
Stands p octets = StandsInHeader p octets ⊎ StandsInContent p octets

-- The octets are the encoding of an element, whose identifier octets and length are kept.
pub record IsComplete (p : Pending) (octets : List ℕ) : Type 0 where
  pub element : Element
  pub readable : IsReadable element
  pub whole : octets ≡ element_encoding element
  pub kept : take p.count p.octets ≡ identifier_octets element.tag
  pub count : p.content_length ≡ length element.content

-- What more octets made of those that were pending.
abbrev pub Reaches : Pending → Progress → List ℕ → Type 0
Reaches p GoesOn octets = Stands p octets
Reaches p Completes octets = IsComplete p octets
Reaches p (Fails kind) octets = IsFault octets kind

abbrev pub Advances : Pending → Pending → Progress → List ℕ → Type 0
Advances old new progress octets = (text : List ℕ) → Stands old text → Reaches new progress (text ++ octets)

-- Octets after those that were pending were taken, and the lines of their elements were made behind `before`.
pub record Taken (p : Pending) (octets before made : List ℕ) : Type 0 where
  pub elements : List Element
  pub rest : List ℕ
  pub framing : IsFraming octets elements rest
  pub stands : Stands p rest
  pub made_lines : made ≡ before ++ flat_map element_line elements

-- The octets held an error, and all the lines were made behind `before`.
pub record TakenToFault (octets before made : List ℕ) : Type 0 where
  pub elements : List Element
  pub rest : List ℕ
  pub framing : IsFraming octets elements rest
  pub long : ¬ IsUnfinished rest
  pub made_lines : made ≡ before ++ lines elements rest

-- Octets were read, and all except those that are pending were taken. Of the lines, `kept` aren't yet written.
pub record FramedTo (p : Pending) (left left' held held' : Option (List ℕ)) (kept : List ℕ) : Type 0 where
  pub octets : List ℕ
  pub elements : List Element
  pub rest : List ℕ
  pub read : Consumes left left' octets
  pub framing : IsFraming octets elements rest
  pub stands : Stands p rest
  pub sent : List ℕ
  pub written : Appends held held' sent
  pub made_lines : sent ++ kept ≡ flat_map element_line elements
