use Rattle.std.proofs.Common.{◌≡◌, ◌<◌, ◌∙◌, ℕ, List, true, IsUtf8, sym, inl, inr, arith}
use Rattle.std.specs.Int.{is_in_range}
use Rattle.std.proofs.lemmas.Bool.{and_parts, or_cases, eqb-true, leb-true}
use Rattle.std.proofs.lemmas.Str.{IsUtf8-from_ascii}
use Rattle.asn1_values.specs.Lemmas.Texts.{all_are_ascii}
use Rattle.asn1.specs.Numeric.{is_numeric, is_numeric_text}
use Rattle.asn1.proofs.numeric.numeric_text_in.Goals as goal

numeric_is_ascii : (x : ℕ) → is_numeric x ≡ true → x < 128
numeric_is_ascii x e = elim (or_cases (is_in_range 0x30 0x39 x) _ e) [
  | inl digit ↦ omega (arith, leb-true x 0x39 (and_parts _ _ digit).1)
  | inr space ↦ omega (arith, eqb-true x 0x20 space)
]

numeric_utf8 : (c : List ℕ) → is_numeric_text c ≡ true → IsUtf8 c
numeric_utf8 c e = IsUtf8-from_ascii c (all_are_ascii is_numeric numeric_is_ascii c e)

pub from_utf8_unchecked-requires : goal.from_utf8_unchecked-requires
from_utf8_unchecked-requires c = numeric_utf8 c.args.octets.now (sym c.is_numeric_text.ensures ∙ c.if-not-is_numeric_text.false)
