-- What reading returns for a value whose type an item defines: an element, or a variant whose item a test knows.
use Rattle.std.proofs.Common.{◌≡◌, ℕ, Bool, List, Result, Ok, inr, true, if◌then◌else◌, Err, ◌⊎◌, inl}
use Rattle.asn1_core.specs.Element.{element_encoding, ◌>>=◌}
use Rattle.asn1_core.specs.ReadError.{ReadError, read_error}
use Rattle.asn1_core.specs.Reading.{framed_element, whole}
use Rattle.asn1_core.specs.declared.parser.ParseErrorKind.TheVariants.{UnknownDefinedBy}

-- contents octets that are one element, which is framed and then read as a value
abbrev pub element_read : {M : Type 0} → (List ℕ → Result (M × List ℕ) ReadError) → List ℕ → Result M ReadError
element_read read c = whole (framed_element c) >>= λ e. whole (read (element_encoding e))

-- An item, and a test for it.
pub record Known (I : Type 0) : Type 0 where
  pub item : I
  pub is : I → Bool
  pub itself : is item ≡ true
  pub alone : (i : I) → is i ≡ true → item ≡ i

abbrev pub variant_read : {M : Type 0} → Bool → (List ℕ → Result (M × List ℕ) ReadError) → List ℕ → Result (M × List ℕ) ReadError
variant_read known read t = if known then read t else Err (read_error UnknownDefinedBy)

abbrev pub or_item : {I M N : Type 0} → I → (N → I) → M ⊎ N → I
or_item i items (inl m) = i
or_item i items (inr n) = items n

abbrev pub or_known : {M N : Type 0} → Bool → (List ℕ → Result (M × List ℕ) ReadError) → (List ℕ → Result (N × List ℕ) ReadError) → List ℕ → Result ((M ⊎ N) × List ℕ) ReadError
or_known known read others t = if known then (read t >>= λ x. Ok (inl x.0, x.1)) else others t >>= λ x. Ok (inr x.0, x.1)

-- A value for any item, which keeps the item.
abbrev pub with_item : {I M : Type 0} → I → M × List ℕ → Result ((I × M) × List ℕ) ReadError
with_item i x = Ok ((i, x.0), x.1)
