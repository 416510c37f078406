use Rattle.asn1_values.specs.Lemmas.Identifier.{empty_by, some_by}
use Rattle.asn1.specs.Lemmas.Relative.{IsRelativeForm_remaining, IsRelativeForm_IsSplit, identifier_numbers_last}
use Rattle.asn1.proofs.relative_oid.RelativeOid.split_first.Goals as goal

pub returns-then-is_empty : goal.returns-then-is_empty
returns-then-is_empty c = identifier_numbers_last c.args.self.now.octets.now _ _ c.args.self.now.is_content c.first_arc-arc.ensures (empty_by _ _ c.is_empty.ensures c.if-is_empty.true)

pub invariant_of-result : goal.invariant_of-result
invariant_of-result c = record {
  is_content = IsRelativeForm_remaining c.args.self.now.octets.now _ _ c.args.self.now.is_content c.first_arc-arc.ensures (some_by _ _ c.is_empty.ensures c.if-is_empty.false);
}

pub returns : goal.returns
returns c = (IsRelativeForm_IsSplit c.args.self.now.octets.now _ _ c.args.self.now.is_content c.first_arc-arc.ensures).arcs
