-- Elements, and what octets begin with (X.690 8.1.1).
use Rattle.std.specs.Prelude.{◌≡◌, ℕ, ◌-◌, ◌^◌, ◌<◌, ◌⊎◌, if◌then◌else◌, nat_lt, List, ◌++◌, length, take, drop, Result, Ok, Err}
use Rattle.asn1_core.specs.declared.parser.ParseErrorKind.{ParseErrorKind}
use Rattle.asn1_core.specs.declared.parser.ParseErrorKind.TheVariants.{ShortData}
use Rattle.asn1_core.specs.declared.tag.Tag.{Tag}
use Rattle.asn1_core.specs.Tag.{identifier_octets, leading_tag, IsLeadingTag}
use Rattle.asn1_core.specs.Length.{length_octets, leading_length, IsLeadingLength}

-- A tag and contents octets.
pub record Element : Type 0 where
  pub tag : Tag
  pub content : List ℕ

-- The element with this tag and these contents octets.
abbrev pub element : Tag → List ℕ → Element
element tag content = record { tag = tag; content = content }

-- The encoding of an element: identifier octets, length octets and contents octets. (8.1.1.1, 8.1.4)
unfoldable pub element_encoding : Element → List ℕ
element_encoding e = identifier_octets e.tag ++ (length_octets (length e.content) ++ e.content)

-- The tag's number and the length of the contents octets are readable: below 2 ^ 32.
pub record IsReadable (e : Element) : Type 0 where
  pub tag : e.tag.value < 2 ^ 32
  pub content : length e.content < 2 ^ 32

-- What octets begin with: one element and the remaining octets; or the error of the first field that is malformed or
-- unfinished, in the order tag, length, contents octets. The kinds are `InvalidTag`, `InvalidLength`, and `ShortData`
-- with how many octets are missing at least.
abbrev pub IsLeadingElement : List ℕ → Result (Element × List ℕ) ParseErrorKind → Type 0
IsLeadingElement octets (Ok found) = IsReadable found.0 × (octets ≡ element_encoding found.0 ++ found.1)
IsLeadingElement octets (Err kind) = IsLeadingTag octets (Err kind)
    ⊎ ((tag : Tag) × (after : List ℕ) × IsLeadingTag octets (Ok (tag, after)) × IsLeadingLength after (Err kind))
    ⊎ ((tag : Tag) × (after : List ℕ) × (n : ℕ) × (content : List ℕ) × IsLeadingTag octets (Ok (tag, after))
    × IsLeadingLength after (Ok (n, content)) × (length content < n) × (kind ≡ ShortData (n - length content)))

-- One read, and then another that uses its value; an error of the first is returned.
infixl 10 ◌>>=◌
abbrev pub ◌>>=◌ : {A B E : Type 0} → Result A E → (A → Result B E) → Result B E
(Ok x) >>= f = f x
(Err e) >>= f = Err e

abbrev pub leading_content : Tag → ℕ → List ℕ → Result (Element × List ℕ) ParseErrorKind
leading_content tag n rest = if nat_lt (length rest) n then Err (ShortData (n - length rest)) else Ok (element tag (take n rest), drop n rest)

-- What octets begin with, as a function: the tag, the length, the contents octets.
unfoldable pub leading_element : List ℕ → Result (Element × List ℕ) ParseErrorKind
leading_element octets = leading_tag octets >>= λ tag. leading_length tag.1 >>= λ n. leading_content tag.0 n.0 n.1
