-- The reply to a line depends on its form.
use Rattle.std.proofs.Common.{◌≡◌, ℕ, List, [], ◌++◌, Option, Some, None, Result, Ok, Err, get_or, refl, sym, ap, ◌∙◌, lit<, arith}
use Rattle.std.specs.Prelude.{codes, is_ok, true}
use Rattle.std.proofs.lemmas.Bool.{false≢true}
use Rattle.std.proofs.lemmas.List.{append-nil}
use Rattle.hex.specs.Hex.{decode_of, encode_lower}
use Rattle.hex.proofs.HexLemmas.{decode_of-ok}
use Rattle.asn1.specs.Base256.{IsOctets}
use Rattle.asn1.specs.ReadError.{ReadError}
use Rattle.asn1.specs.Lemmas.Texts.{IsOctets_from_reads}
use Rattle.asn1.specs.Lemmas.Wholes.{begins_accepted_nil, whole_consumes, whole_read_back}
use Rattle.dercheck.specs.declared.words.Word.{Word}
use Rattle.dercheck.specs.declared.words.Word.TheVariants as words
use Rattle.dercheck.specs.Replies.{kind_text, is_ok_line, is_ok_to, answer, answer_to, answer_read, reading}
use Rattle.dercheck.specs.Requests.{type_of, IsRequest, request_of}
use Rattle.dercheck.specs.Laws.{IsOkLine, OkLinesAreOk, BadLinesAreBad, IsValueEncoding, ValuesAreOk, FaultsAreErr}
use Rattle.dercheck.proofs.RequestLaws.{request_of_is, requests_are_right}

-- each type is lawful
lawful : (word : Word) → (type_of word).der.lawful
lawful words.Tlv = tt
lawful words.SeqOfInt = (((tt, lit< tt), tt), lit< tt)
lawful words.SetOfInt = (((tt, lit< tt), tt), lit< tt)
lawful _ = (tt, lit< tt)

-- ---- lines that are no request

bad : (line : List ℕ) (asks : Option (Word × List ℕ)) → ((word : Word) (octets : List ℕ) → ¬ IsRequest line word octets) → request_of line ≡ asks → answer_to asks ≡ codes "bad line"
bad line None none e = refl
bad line (Some (word, octets)) none e = absurd (none word octets ((requests_are_right line word octets).1 e))

pub bad_lines_are_bad : BadLinesAreBad
bad_lines_are_bad line none = bad line (request_of line) none refl

-- ---- requests

answer_is : (line : List ℕ) (word : Word) (octets : List ℕ) → IsRequest line word octets → answer line ≡ answer_read octets (reading word octets)
answer_is line word octets is = ap answer_to (request_of_is line word octets is)

decode_of_IsOctets : (hex octets : List ℕ) → decode_of hex ≡ Ok octets → IsOctets octets
decode_of_IsOctets hex octets e = IsOctets_from_reads octets (decode_of-ok hex octets e).3

abbrev IsMeaning : Word → Type 0
IsMeaning word = (type_of word).der.Meaning

reading_value : (word : Word) (octets : List ℕ) (v : IsValueEncoding word octets) → reading word octets ≡ Ok v.value
reading_value word octets v =
    let d = (type_of word).der in
    whole_read_back d.encoding d.read v.value octets (d.laws.read_back v.value [] (lawful word) v.encodes.valid v.encodes.allowed v.encodes.fits (λ e. begins_accepted_nil d.accepts)) v.encodes.is

value_reading : (word : Word) (octets : List ℕ) (value : IsMeaning word) → IsOctets octets → reading word octets ≡ Ok value → IsValueEncoding word octets
value_reading word octets value text e =
    let d = (type_of word).der in
    let found = whole_consumes d.encoding (λ m. d.valid m × d.allowed m) d.read d.laws.consumes octets value text e in
    record {
      value = value;
      encodes = record { is = found.0.is ∙ append-nil (d.encoding value); valid = found.1.0; allowed = found.1.1; fits = found.0.one };
    }

-- the first letters of `err` and `ok` differ
not_ok : (kind octets : List ℕ) → codes "err " ++ kind ≡ codes "ok " ++ octets → ⊥
not_ok kind octets e = let letters : ◌≡◌ {A = ℕ} 101 111 = ap (λ (xs : List ℕ). get_or xs 0 0) e in omega arith

value_ok : (word : Word) (octets : List ℕ) (read : Result (IsMeaning word) ReadError) → IsOctets octets → reading word octets ≡ read →
    answer_read octets read ≡ codes "ok " ++ encode_lower octets → IsValueEncoding word octets
value_ok word octets (Ok value) text same e = value_reading word octets value text same
value_ok word octets (Err fault) text same e = absurd (not_ok (kind_text fault.kind) (encode_lower octets) e)

pub values_are_ok : ValuesAreOk
values_are_ok line word octets is = (
  λ (v : IsValueEncoding word octets). answer_is line word octets is ∙ ap (answer_read octets) (reading_value word octets v),
  λ (e : answer line ≡ codes "ok " ++ encode_lower octets).
      value_ok word octets (reading word octets) (decode_of_IsOctets is.hex octets is.decoded) refl (sym (answer_is line word octets is) ∙ e),
)

pub faults_are_err : FaultsAreErr
faults_are_err line word octets fault is e = answer_is line word octets is ∙ ap (answer_read octets) e

-- ---- lines whose replies are `ok`

read_ok : (line : List ℕ) (word : Word) (octets : List ℕ) (read : Result (IsMeaning word) ReadError) → IsRequest line word octets →
    reading word octets ≡ read → is_ok read ≡ true → IsOkLine line
read_ok line word octets (Ok value) is same e =
    record { word = word; octets = octets; request = is; value = value_reading word octets value (decode_of_IsOctets is.hex octets is.decoded) same }
read_ok line word octets (Err fault) is same e = absurd (false≢true e)

asks_ok : (line : List ℕ) (asks : Option (Word × List ℕ)) → request_of line ≡ asks → is_ok_to asks ≡ true → IsOkLine line
asks_ok line None same e = absurd (false≢true e)
asks_ok line (Some (word, octets)) same e =
    read_ok line word octets (reading word octets) ((requests_are_right line word octets).1 same) refl e

pub ok_lines_are_ok : OkLinesAreOk
ok_lines_are_ok line = (
  λ (e : is_ok_line line ≡ true). asks_ok line (request_of line) refl e,
  λ (ok : IsOkLine line).
      ap is_ok_to (request_of_is line ok.word ok.octets ok.request) ∙ ap is_ok (reading_value ok.word ok.octets ok.value),
)
