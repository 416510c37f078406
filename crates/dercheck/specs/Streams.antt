-- What a pull takes from a source and what a put leaves in a sink, if these state their octets.
use Rattle.std.specs.Prelude.{◌≡◌, ℕ, ◌<◌, Bool, true, false, List, length, take, slice_range, nat_lt, IsTrue, IsSomeAnd, MatchOption, Option, ◌+◌, ◌-◌, ◌++◌}
use Rattle.std.specs.Io.KnownBytes.{Keeps, Appends, Consumes, IsAtEnd, prepend_known}
use Rattle.dercheck.specs.declared.memory.Pieces.{Pieces}
use Rattle.dercheck.specs.declared.memory.Held.{Held}
use Rattle.dercheck.specs.declared.system.Input.{Input}
use Rattle.dercheck.specs.declared.system.Output.{Output}

-- a pull into `buf` returned `r`: at `Some n` the first n octets of `buf` are the next ones of the source, and n is 0
-- only at the end or without room; at `None` nothing was taken
abbrev pub PullTakes : Option (List ℕ) → Option (List ℕ) → Option ℕ → List ℕ → Type 0
PullTakes old new r buf =
    MatchOption r (Keeps old new) (λ n. Consumes old new (take n buf) × (n ≡ 0 → 0 < length buf → IsAtEnd new))

-- a pull into `buf` returned `r`: if the source was ready and `buf` has room, it gave some
abbrev pub GivesIfReady : Bool → Option ℕ → List ℕ → Type 0
GivesIfReady ready r buf = IsTrue ready → 0 < length buf → IsSomeAnd r (λ n. 0 < n)

-- a put of `octets` returned `r`: at `Some n` the first n were appended; at `None` nothing was
abbrev pub PutAppends : Option (List ℕ) → Option (List ℕ) → Option ℕ → List ℕ → Type 0
PutAppends old new r octets = MatchOption r (Keeps old new) (λ n. Appends old new (take n octets))

-- `None` sets the flag, `Some` leaves it
abbrev pub FlagFollows : Bool → Bool → Option ℕ → Type 0
FlagFollows old new r = MatchOption r (new ≡ true) (λ _. new ≡ old)

-- a prefix of the octets was appended
abbrev pub AppendsInPart : Option (List ℕ) → Option (List ℕ) → List ℕ → Type 0
AppendsInPart old new octets = (n : ℕ) × Appends old new (take n octets)

-- all of the octets were appended; or, at false, a prefix of them, and the sink failed
abbrev pub Puts : Bool → Option (List ℕ) → Option (List ℕ) → Bool → Bool → List ℕ → Type 0
Puts true old new had_failed has_failed octets = Appends old new octets × (has_failed ≡ had_failed)
Puts false old new had_failed has_failed octets = AppendsInPart old new octets × (has_failed ≡ true)

-- ---- what the streams over memory state

-- The octets that pieces have left.
abbrev pub pieces_left : Pieces → List ℕ
pieces_left s = s.first.now ++ s.second.now

-- How many octets pieces have left.
abbrev pub left_count : Pieces → ℕ
left_count s = length s.first.now + length s.second.now

-- Pieces are never at hand before a pull.
abbrev pub pieces_ready : Pieces → Bool
pieces_ready s = false

-- How many octets a pull of pieces gives at most.
abbrev pub piece_of : Pieces → ℕ
piece_of s = s.piece

-- Whether a pull at the end of pieces fails.
abbrev pub fails_at_end : Pieces → Bool
fails_at_end s = s.fails

-- Whether a pull of pieces has failed.
abbrev pub pieces_failed : Pieces → Bool
pieces_failed s = s.has_failed

-- The octets that a `Held` holds.
abbrev pub held_octets : Held → List ℕ
held_octets s = take s.count s.octets

-- How many octets a `Held` still takes.
abbrev pub room_left : Held → ℕ
room_left s = s.room - s.count

-- Whether a put into a `Held` has failed.
abbrev pub held_failed : Held → Bool
held_failed s = s.has_failed

-- ---- what the streams over a reader and a writer state

-- The reader of an `Input`.
abbrev pub input_reader : {R : Type 0} → Input R → R
input_reader s = s.reader

-- The octets that an `Input` has read from its reader and not given yet.
abbrev pub input_at_hand : {R : Type 0} → Input R → List ℕ
input_at_hand s = slice_range s.octets s.start s.end

-- Whether an `Input` has octets at hand.
abbrev pub input_ready : {R : Type 0} → Input R → Bool
input_ready s = nat_lt s.start s.end

-- The octets that an `Input` has left: those at hand, and then its reader's.
abbrev pub input_left : {R : Type 0} → (R → Option (List ℕ)) → Input R → Option (List ℕ)
input_left remaining s = prepend_known (input_at_hand s) (remaining s.reader)

-- How many octets an `Input` still gives at most.
abbrev pub input_bound : {R : Type 0} → Input R → ℕ
input_bound s = s.count + (s.end - s.start)

-- Whether a pull of an `Input` has failed.
abbrev pub input_failed : {R : Type 0} → Input R → Bool
input_failed s = s.has_failed

-- The writer of an `Output`.
abbrev pub output_writer : {W : Type 0} → Output W → W
output_writer s = s.writer

-- Whether a put into an `Output` has failed.
abbrev pub output_failed : {W : Type 0} → Output W → Bool
output_failed s = s.has_failed
