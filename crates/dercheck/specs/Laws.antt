-- What holds of the definitions.
use Rattle.std.specs.Prelude.{IsTrue, ℕ, ◌≡◌, ◌↔◌, List, ◌++◌, codes, Some, Err}
use Rattle.hex.specs.Hex.{encode_lower}
use Rattle.asn1.specs.ReadError.{ReadError}
use Rattle.asn1.specs.Headline.{Encodes}
use Rattle.dercheck.specs.declared.words.Word.{Word}
use Rattle.dercheck.specs.Lines.{lines_of, AreLines}
use Rattle.dercheck.specs.Replies.{kind_text, answer, is_ok_line, reading}
use Rattle.dercheck.specs.Requests.{type_of, IsRequest, request_of}

-- An input has its lines, and no others.
abbrev pub LinesAreRight : Type 0
LinesAreRight = (octets : List ℕ) (lines : List (List ℕ)) → AreLines octets lines ↔ (lines_of octets ≡ lines)

-- A line is at most one request, which the function returns.
abbrev pub RequestsAreRight : Type 0
RequestsAreRight = (line : List ℕ) (word : Word) (octets : List ℕ) → IsRequest line word octets ↔ (request_of line ≡ Some (word, octets))

-- The reply to a line that is no request is `bad line`.
abbrev pub BadLinesAreBad : Type 0
BadLinesAreBad = (line : List ℕ) → ((word : Word) (octets : List ℕ) → ¬ IsRequest line word octets) → answer line ≡ codes "bad line"

-- The octets are the encoding of a value of the word's type, which is valid, within the type's bounds, and short enough to
-- be read.
pub record IsValueEncoding (word : Word) (octets : List ℕ) : Type 0 where
  pub value : (type_of word).der.Meaning
  pub encodes : Encodes (type_of word).der value octets

-- The reply to a request is `ok` and its octets, exactly if these are the encoding of a value.
abbrev pub ValuesAreOk : Type 0
ValuesAreOk = (line : List ℕ) (word : Word) (octets : List ℕ) → IsRequest line word octets →
    IsValueEncoding word octets ↔ (answer line ≡ codes "ok " ++ encode_lower octets)

-- The line is a request whose octets are the encoding of a value.
pub record IsOkLine (line : List ℕ) : Type 0 where
  pub word : Word
  pub octets : List ℕ
  pub request : IsRequest line word octets
  pub value : IsValueEncoding word octets

-- The lines whose replies are `ok` are these.
abbrev pub OkLinesAreOk : Type 0
OkLinesAreOk = (line : List ℕ) → IsTrue (is_ok_line line) ↔ IsOkLine line

-- The reply to a request whose octets are rejected is `err` and the error's kind.
abbrev pub FaultsAreErr : Type 0
FaultsAreErr = (line : List ℕ) (word : Word) (octets : List ℕ) (fault : ReadError) → IsRequest line word octets →
    reading word octets ≡ Err fault → answer line ≡ codes "err " ++ kind_text fault.kind
