-- Where encodings lie in a buffer, as the code of a set's writer notes it. No public contract names these spans.
use Rattle.std.specs.Prelude.{ℕ, ◌≡◌, ◌+◌, ◌≤◌, ◌++◌, List, [], length, take, drop, map, replicate, if◌then◌else◌, nat_le, Bool, All}
use Rattle.std.specs.declared.cmp.Ordering.{Ordering}
use Rattle.std.specs.Ordering.{ordering_then, nat_cmp}
use Rattle.std.specs.Cmp.Lexicographic.{slice_cmp}
use Rattle.asn1_core.specs.Base256.{number}
use Rattle.asn1_core.specs.Listing.{encoding_less, EachEncoding}
use Rattle.asn1_core.specs.declared.writer.sets.Span.{Span}

-- The octets of a span, or none if the span passes the end.
abbrev pub part_of : List ℕ → Span → List ℕ
part_of octets s = if nat_le (s.from + s.len) (length octets) then take s.len (drop s.from octets) else []

-- The number of the first eight octets; if there are fewer, zeros follow them.
abbrev pub first_number : List ℕ → ℕ
first_number t = number (take 8 (t ++ replicate 8 0))

abbrev pub IsBefore : List ℕ → Span → Span → Bool
IsBefore octets a b = encoding_less (part_of octets a) (part_of octets b)

-- The span lies within n octets.
pub record IsWithin (n : ℕ) (s : Span) : Type 0 where
  pub within : s.from + s.len ≤ n

-- How two spans compare: by the numbers of their first octets, then by all octets.
abbrev pub span_cmp : List ℕ → Span → Span → Ordering
span_cmp octets a b = ordering_then (nat_cmp a.first b.first) (slice_cmp nat_cmp (part_of octets a) (part_of octets b))

-- The span has the number of its first octets.
pub record NotesFirst (octets : List ℕ) (s : Span) : Type 0 where
  pub first : s.first ≡ first_number (part_of octets s)

-- The spans hold an encoding of each item.
pub record NotesTexts {T : Type 0} (encodings : T → List ℕ → Type 0) (items : List T) (octets : List ℕ) (spans : List Span) : Type 0 where
  pub each : EachEncoding encodings items (map (part_of octets) spans)
  pub within : All (IsWithin (length octets)) spans
  pub firsts : All (NotesFirst octets) spans
