-- Relative object identifiers (X.690 8.20): lists of arcs, whose contents octets are the arcs in base 128,
-- concatenated.
use Rattle.std.specs.Prelude.{◌≡◌, ◌<◌, ◌↔◌, Ok, ℕ, List, length, slice_index, Result, Err, nat_eq, if◌then◌else◌, is_some, true, codes, decimal}
use Rattle.std.specs.List.{join_by}
use Rattle.asn1_core.specs.ReadError.{ReadError, read_error}
use Rattle.asn1_core.specs.Base256.{IsOctets}
use Rattle.asn1_core.specs.declared.parser.ParseErrorKind.TheVariants.{InvalidValue}
use Rattle.asn1_values.specs.Identifier.{AllSmall, identifier_content, numbers_in, or_invalid}

-- The numbers are the arcs of a relative object identifier: at least one (X.680 33.3), each below 2^128.
pub record IsRelative (arcs : List ℕ) : Type 0 where
  pub some : 0 < length arcs
  pub small : AllSmall arcs

-- The octets are the contents octets of the relative object identifier with these arcs: the arcs in base 128,
-- concatenated. (8.20.2 to 8.20.4)
pub record IsRelativeContent (octets arcs : List ℕ) : Type 0 where
  pub identifier : IsRelative arcs
  pub content : octets ≡ identifier_content arcs

-- The arcs that the octets are the contents octets of.
unfoldable pub read_relative : List ℕ → Result (List ℕ) ReadError
read_relative octets = if nat_eq (length octets) 0 then Err (read_error InvalidValue) else or_invalid (numbers_in octets)

-- The form in memory: octets that are numbers in base 128, at least one.
pub record IsRelativeForm (octets : List ℕ) : Type 0 where
  pub some : 0 < length octets
  pub cuts : is_some (numbers_in octets) ≡ true
  pub each : (k : ℕ) → slice_index octets k < 256

-- The arcs in decimal, without needless zeros, with a point between neighbours.
abbrev pub arcs_text : List ℕ → List ℕ
arcs_text arcs = join_by decimal (codes ".") arcs

-- Reading returns the arcs of contents octets, and rejects all other octets.
abbrev pub RelativesAreRead : Type 0
RelativesAreRead = (octets arcs : List ℕ) → IsOctets octets → (read_relative octets ≡ Ok arcs) ↔ IsRelativeContent octets arcs
