use Rattle.std.proofs.Common.{◌≡◌, ℕ, List, Some, None, Result, Ok, Err, refl, sym, ap, ◌∙◌}
use Rattle.std.specs.Prelude.{IsErr}
use Rattle.hex.specs.Hex.{decode_of}
use Rattle.hex.specs.declared.error.FromHexError.{FromHexError}
use Rattle.dercheck.specs.declared.words.Word.{Word}
use Rattle.dercheck.specs.Lines.{option_split}
use Rattle.dercheck.specs.Requests.{asked, asked_by}
use Rattle.dercheck.proofs.words.request.Goals as goal

-- what is no hex asks for nothing
asked-err : (word : Word) (decoded : Result (List ℕ) FromHexError) → IsErr decoded → asked (Some word) decoded ≡ None
asked-err word (Ok octets) fails = cc fails
asked-err word (Err error) fails = refl

pub returns-in-None-clause-ok : goal.returns-in-None-clause-ok
returns-in-None-clause-ok c =
    let parts = sym c.split_once.ensures ∙ ap option_split c.in-Some.is in
    let word = sym c.named.ensures ∙ c.in-Some-named.is in
    sym (ap asked_by parts ∙ ap (λ found. asked found (decode_of c.in-Some.hex.now)) word
    ∙ asked-err c.in-Some-named.word (decode_of c.in-Some.hex.now) (rw c.in-None.is at c.in_ok-octets.ensures))
