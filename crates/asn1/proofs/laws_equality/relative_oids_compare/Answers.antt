use Rattle.std.proofs.Common.{◌≡◌, ◌↔◌, ◌∙◌, IsTrue, nat_eq, ap, sym}
use Rattle.std.specs.Cmp.Lexicographic.{pointwise}
use Rattle.std.proofs.lemmas.Bool.Decides.{Decides-like}
use Rattle.std.proofs.lemmas.Slice.Eq.{bytes_eq-Decides}
use Rattle.asn1.specs.declared.relative_oid.RelativeOid.{RelativeOid}
use Rattle.asn1_values.specs.Identifier.{identifier_content, identifier_numbers}
use Rattle.asn1.specs.RelativeValues.{relative_arcs}
use Rattle.asn1.specs.Lemmas.Relative.{IsRelativeForm_IsRelativeContent}
use Rattle.asn1.proofs.laws_equality.relative_oids_compare.Goals as goal

same_octets : (a b : RelativeOid) → relative_arcs a ≡ relative_arcs b → a.octets.now ≡ b.octets.now
same_octets a b e = (IsRelativeForm_IsRelativeContent a.octets.now a.is_content).content ∙ ap identifier_content e ∙ sym (IsRelativeForm_IsRelativeContent b.octets.now b.is_content).content

equal : (a b : RelativeOid) → IsTrue (pointwise nat_eq a.octets.now b.octets.now) ↔ (relative_arcs a ≡ relative_arcs b)
equal a b = Decides-like (pointwise nat_eq a.octets.now b.octets.now) (λ (h : a.octets.now ≡ b.octets.now). ap identifier_numbers h) (same_octets a b) (bytes_eq-Decides a.octets.now b.octets.now)

pub returns-clause-equality : goal.returns-clause-equality
returns-clause-equality c = equal

pub returns-clause-hash : goal.returns-clause-hash
returns-clause-hash c a b e = let same = same_octets a b e in cc

pub returns-clause-clone : goal.returns-clause-clone
returns-clause-clone c a b same = (equal b a).1 (ap relative_arcs same)
