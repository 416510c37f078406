-- Octets that last as long as the program.
use Rattle.std.specs.Prelude.{◌≡◌, ℕ, List, []}
use base.Fml.{Fml}
use denote.Builtin.{u8}
use denote.RawPtr.{Ptr, block_ptr, block_of, count_of}
use denote.Slice.{elements_shared}

-- p points into a block
abbrev pub IsPlaced : Ptr → Type 0
IsPlaced p = p ≡ block_ptr (block_of p) (count_of p)

-- the right to read these octets there, which never ends
abbrev pub lasting : Ptr → List ℕ → Fml
lasting p octets = elements_shared u8 octets (block_of p) (count_of p) []
