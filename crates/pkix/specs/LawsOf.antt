-- The laws of the content of bit strings with named bits.
use Rattle.std.specs.Prelude.{ℕ, ◌≡◌, List, Ok, IfErr}
use Rattle.std.proofs.Common.{refl, subst}
use Rattle.asn1.specs.declared.ParseErrorKind.TheVariants.{InvalidValue}
use Rattle.asn1.specs.ReadError.{read_error, IsOfInput}
use Rattle.asn1.specs.Base256.{IsOctets}
use Rattle.asn1.specs.EncodingLaws.{ContentLaws}
use Rattle.asn1.specs.LawsOf.Encodings.{basic_laws}
use Rattle.asn1.specs.LawsOf.Values.{bits_laws}
use Rattle.asn1.specs.Bits.{Bits, bits_text, read_bits}
use Rattle.asn1.specs.Lemmas.Results.{done_injective, bind_ok, if_ok_is}
use Rattle.asn1.specs.Lemmas.Faults.{bind_errors, passed_errors}
use Rattle.pkix.specs.NamedBits.{ends_with_one, IsNamedBits, named_bits, read_named_bits, named_bits_content}

-- What is read is the contents octets of the value that is returned.
pub named_bits_consumes : (c : List ℕ) (b : Bits) → IsOctets c → read_named_bits c ≡ Ok b → (c ≡ bits_text b) × IsNamedBits b
named_bits_consumes c b is e =
    let read = bind_ok (read_bits c) named_bits b e in
    let test = if_ok_is (ends_with_one read.0) (Ok read.0) (read_error InvalidValue) b read.2 in
    let taken = bits_laws.consumes c read.0 is read.1 in
    let P : Bits → Type 0 = λ z. (c ≡ bits_text z) × IsNamedBits z in
    subst P (done_injective _ _ test.1) (taken.0, (taken.1.0, test.0))

-- A value's contents octets are read back.
pub named_bits_read_back : (b : Bits) → IsNamedBits b → read_named_bits (bits_text b) ≡ Ok b
unfolding read_bits
named_bits_read_back b h = rw h.0 (rw h.1 refl)

-- An error is never out of memory.
pub named_bits_errors : (c : List ℕ) → IfErr (read_named_bits c) IsOfInput
named_bits_errors c = bind_errors (read_bits c) named_bits (bits_laws.errors c) (λ b. passed_errors (ends_with_one b) (Ok b) InvalidValue tt (λ e. cc))

-- The laws of its contents octets.
pub named_bits_laws : ContentLaws named_bits_content
named_bits_laws = basic_laws _ (record {
  consumes = named_bits_consumes;
  read_back = named_bits_read_back;
  errors = named_bits_errors;
})
