use Rattle.std.proofs.Common.{◌≡◌, ◌+◌, ◌≤◌, List, [], ℕ, length}
use Rattle.asn1_core.specs.Base256.{IsOctets}
use Rattle.asn1_core.specs.Tag.{tag_at_start, tag_less}
use Rattle.asn1_core.specs.Reading.{framed_element}
use Rattle.asn1.specs.Sets.{checked}
use Rattle.asn1.proofs.lists.sets.check_elements.Given as goal

-- the remaining octets come after an element with this encoding
abbrev pub invariant-elements : goal.invariant-elements
invariant-elements l = record {
  before : List ℕ;
  tag : tag_at_start before ≡ l.last;
  same : checked tag_less framed_element before l.index l.parser ≡ checked tag_less framed_element [] 0 l.fn.content;
  octets : IsOctets l.parser;
  room : l.index + length l.parser ≤ length l.fn.content;
}

abbrev pub decreases-elements : goal.decreases-elements
decreases-elements l = length l.parser
