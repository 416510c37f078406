-- Bit strings whose bits have names: zero bits at the end are removed before they are encoded (X.690 11.2.2).
use Rattle.std.specs.Prelude.{ℕ, ◌-◌, ◌/◌, ◌%◌, ◌^◌, ◌≡◌, Bool, true, if◌then◌else◌, nat_eq, List, length, slice_index, Result, Ok, Err}
use Rattle.asn1.specs.declared.ParseErrorKind.TheVariants.{InvalidValue}
use Rattle.asn1.specs.ReadError.{ReadError, read_error}
use Rattle.asn1.specs.Element.{◌>>=◌}
use Rattle.asn1.specs.Encoding.{Content, basic}
use Rattle.asn1.specs.Tag.{universal}
use Rattle.asn1.specs.Bits.{Bits, IsBits, bits_text, read_bits}

-- The last bit is a one, or there is none.
abbrev pub ends_with_one : Bits → Bool
ends_with_one b = if nat_eq (length b.octets) 0 then true else nat_eq (slice_index b.octets (length b.octets - 1) / 2 ^ b.padding % 2) 1

abbrev pub IsNamedBits : Bits → Type 0
IsNamedBits b = IsBits b × (ends_with_one b ≡ true)

abbrev pub named_bits : Bits → Result Bits ReadError
named_bits b = if ends_with_one b then Ok b else Err (read_error InvalidValue)

-- What reading contents octets returns.
abbrev pub read_named_bits : List ℕ → Result Bits ReadError
read_named_bits octets = read_bits octets >>= named_bits

-- The contents octets of a BIT STRING with named bits: no 0 bit is at the end (X.690 11.2.2).
abbrev pub named_bits_content : Content Bits
named_bits_content = basic (record {
  tag = universal 3;
  encoding = bits_text;
  valid = IsNamedBits;
  read = read_named_bits;
})
