use Rattle.std.proofs.Common.{◌≡◌, ℕ, ◌+◌, ◌≤◌, ◌^◌, List, [], ◌∷◌, length, refl, sym, ap, ◌∙◌, arith, lit<, lit≤}
use Rattle.std.specs.Int.Digits.{digits_of}
use Rattle.asn1_core.specs.Base256.{IsOctets, number}
use Rattle.asn1_core.specs.Base128.{AreNumberOctets, leading_number}
use Rattle.asn1_core.specs.Tag.{leading_tag}
use Rattle.asn1_core.specs.Length.{length_octets, leading_length}
use Rattle.asn1_core.specs.Element.{element_encoding, leading_element}
use Rattle.asn1_core.specs.Laws.{LeadingElements, Tags, Lengths, Booleans, Places}
use Rattle.asn1_core.specs.Lemmas.Digits.{Leads, digits_of_number_from_digits, number_from_digits_256}
use Rattle.asn1_core.specs.Lemmas.NumberTexts.{AreNumberOctets_only}
use Rattle.asn1_core.specs.Lemmas.Lengths.{length_octets_low, length_octets_high}
use Rattle.asn1_core.proofs.laws.worked_examples.Goals as goal

fronts : LeadingElements
unfolding leading_element leading_tag leading_length leading_number
fronts = record { nothing = refl; octets = refl; cut_content = refl; cut_length = refl; long_length = refl; indefinite_length = refl; open_tag = refl; large_tag = refl }

-- the encoding in base 128 of a number, by its digits
number_is : AreNumberOctets (0x81 ∷ 0x80 ∷ 0x01 ∷ []) 16385
number_is = record {
  finished = (lit≤ tt, lit< tt, (lit≤ tt, lit< tt, lit< tt));
  shortest = λ e. omega arith;
  value = refl;
  small = lit< tt;
}

tags : Tags
unfolding leading_tag leading_number
tags = record {
  largest = refl;
  small_in_long_form = refl;
  leading_zero = refl;
  eighteen_octets = refl;
  nineteen_octets = refl;
  encoding = ap (λ (s : List ℕ). 0x1f ∷ s) (sym (AreNumberOctets_only (0x81 ∷ 0x80 ∷ 0x01 ∷ []) 16385 number_is));
}

-- the length octets of a long length, by the octets of its number
long_is : (octets : List ℕ) (n : ℕ) → 128 ≤ n → IsOctets octets → Leads octets → number octets ≡ n → length_octets n ≡ (128 + length octets) ∷ octets
long_is octets n long is leads value =
    let same : digits_of 256 n ≡ octets = ap (digits_of 256) (sym (number_from_digits_256 octets ∙ value)) ∙ digits_of_number_from_digits 256 octets (lit≤ tt) is leads in
    length_octets_high n long ∙ ap (λ (s : List ℕ). (128 + length s) ∷ s) same

lengths : Lengths
lengths = record {
  short = length_octets_low 127 (lit< tt);
  long = long_is (0x80 ∷ []) 128 (lit≤ tt) (lit< tt, tt) (λ l. lit< tt) refl;
  two_octets = long_is (0x01 ∷ 0x00 ∷ []) 256 (lit≤ tt) (lit< tt, (lit< tt, tt)) (λ l. lit< tt) refl;
  three_octets = long_is (0x01 ∷ 0x00 ∷ 0x00 ∷ []) 65536 (lit≤ tt) (lit< tt, (lit< tt, (lit< tt, tt))) (λ l. lit< tt) refl;
  not_readable = long_is (0x01 ∷ 0x00 ∷ 0x00 ∷ 0x00 ∷ 0x00 ∷ []) (2 ^ 32) (lit≤ tt) (lit< tt, (lit< tt, (lit< tt, (lit< tt, (lit< tt, tt))))) (λ l. lit< tt) refl;
}

booleans : Booleans
unfolding leading_element leading_tag leading_length element_encoding length_octets
booleans = record { encoding = refl; read = refl; other_octet = refl; other_tag = refl; rest = refl }

places : Places
places = record { three = refl; eight = refl; nine = refl }

pub returns : goal.returns
returns c = record { fronts = fronts; tags = tags; lengths = lengths; booleans = booleans; places = places }
