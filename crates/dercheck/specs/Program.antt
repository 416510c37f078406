-- What the program does with its arguments, and how it ends.
use Rattle.std.specs.Prelude.{ℕ, Bool, true, false, List, [], ◌∷◌, codes, String, string_bytes, if◌then◌else◌, Option, Some, None, Result, Ok, Err}
use Rattle.std.specs.Str.{bytes_eq}
use Rattle.dercheck.specs.declared.answers.Fault.{Fault}
use Rattle.dercheck.specs.declared.modes.Mode.{Mode}
use Rattle.dercheck.specs.declared.modes.Mode.TheVariants.{Check, Frames}

-- The mode that arguments ask for: none asks for the replies to lines, the one argument `frames` for framing; others
-- are unknown.
abbrev pub mode_of : {A : Type 0} → List (String A) → Option Mode
mode_of [] = Some Check
mode_of (word ∷ []) = if bytes_eq (string_bytes word) (codes "frames") then Some Frames else None
mode_of (first ∷ second ∷ more) = None

-- 0 if each reply is `ok` or the stream consists of whole elements, 1 if not, 2 if there was no result
abbrev pub status_of : Option (Result Bool Fault) → ℕ
status_of (Some (Ok true)) = 0
status_of (Some (Ok false)) = 1
status_of (Some (Err fault)) = 2
status_of None = 2
