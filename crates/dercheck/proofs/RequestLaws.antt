-- A line is one request at most.
use Rattle.std.proofs.Common.{◌≡◌, ℕ, Bool, true, false, List, [], ◌∷◌, ◌++◌, Option, Some, None, Result, Ok, Err, refl, sym, ap, ◌∙◌, ⊎_elim}
use Rattle.std.specs.List.{find}
use Rattle.std.specs.Str.{bytes_eq}
use Rattle.std.proofs.lemmas.Bool.{cases_Bool}
use Rattle.std.proofs.lemmas.Slice.Eq.{bytes_eq-Decides}
use Rattle.hex.specs.Hex.{decode_of}
use Rattle.hex.specs.declared.error.FromHexError.{FromHexError}
use Rattle.dercheck.specs.declared.words.Word.{Word}
use Rattle.dercheck.specs.declared.words.Word.TheVariants as words
use Rattle.dercheck.specs.declared.words.TheConstants.Word.{ALL}
use Rattle.dercheck.specs.Lines.{split_once}
use Rattle.dercheck.specs.Requests.{word_text, word_of, IsRequest, asked, asked_by, request_of}
use Rattle.dercheck.specs.Laws.{RequestsAreRight}
use Rattle.dercheck.proofs.Cuts.{split_once_append, split_once_is, HasNone_missing, Some_injective}

-- ---- the words

word_of_text : (word : Word) → word_of (word_text word) ≡ Some word
word_of_text words.Bool = refl
word_of_text _ = refl

-- a word has no space
uncut : (word : Word) → split_once 32 (word_text word) ≡ None
unfolding split_once
uncut words.Bool = refl
uncut _ = refl

find_Some : {X : Type 0} (test : X → Bool) (xs : List X) (y : X) → find test xs ≡ Some y → test y ≡ true
find_Some test [] y e = let no : None ≡ Some y = e in absurd cc
find_Some {X} test (x ∷ xs) y e = ⊎_elim
    (λ (passes : test x ≡ true). let same : x ≡ y = Some_injective _ _ (rw passes at e) in ap test (sym same) ∙ passes)
    (λ (fails : test x ≡ false). find_Some test xs y (rw fails at e))
    (cases_Bool (test x))

word_of_is : (octets : List ℕ) (word : Word) → word_of octets ≡ Some word → octets ≡ word_text word
word_of_is octets word e =
    sym ((bytes_eq-Decides (word_text word) octets).0 (find_Some (λ w. bytes_eq (word_text w) octets) ALL.now word e))

-- ---- requests

abbrev Request : Type 0
Request = Word × List ℕ

asked_is : (found : Option Word) (decoded : Result (List ℕ) FromHexError) (word : Word) (octets : List ℕ) →
    asked found decoded ≡ Some (word, octets) → (found ≡ Some word) × (decoded ≡ Ok octets)
asked_is (Some w) (Ok o) word octets e =
    let same : (w, o) ≡ (word, octets) = Some_injective _ _ e in
    (ap (λ (r : Request). Some r.0) same, ap (λ (r : Request). Ok r.1) same)
asked_is (Some w) (Err error) word octets e = let no : ◌≡◌ {A = Option Request} None (Some (word, octets)) = e in absurd cc
asked_is None decoded word octets e = let no : ◌≡◌ {A = Option Request} None (Some (word, octets)) = e in absurd cc

asked_by_is : (line : List ℕ) (cut : Option (List ℕ × List ℕ)) (word : Word) (octets : List ℕ) → split_once 32 line ≡ cut →
    asked_by cut ≡ Some (word, octets) → IsRequest line word octets
asked_by_is line None word octets same e = let no : ◌≡◌ {A = Option Request} None (Some (word, octets)) = e in absurd cc
asked_by_is line (Some parts) word octets same e =
    let both = asked_is (word_of parts.0) (decode_of parts.1) word octets e in
    record {
      hex = parts.1;
      is = split_once_is 32 line parts same ∙ ap (λ (text : List ℕ). text ++ 32 ∷ parts.1) (word_of_is parts.0 word both.0);
      decoded = both.1;
    }

pub request_of_is : (line : List ℕ) (word : Word) (octets : List ℕ) → IsRequest line word octets → request_of line ≡ Some (word, octets)
request_of_is line word octets is =
    ap request_of is.is
    ∙ ap asked_by (split_once_append 32 (word_text word) is.hex (HasNone_missing 32 (word_text word) (uncut word)))
    ∙ ap (λ (found : Option Word). asked found (decode_of is.hex)) (word_of_text word)
    ∙ ap (asked (Some word)) is.decoded

pub requests_are_right : RequestsAreRight
requests_are_right line word octets = (request_of_is line word octets, asked_by_is line (split_once 32 line) word octets refl)
