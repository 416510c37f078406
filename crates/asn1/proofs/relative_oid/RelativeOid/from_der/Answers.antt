use Rattle.std.proofs.Common.{◌∙◌, ap, inl, sym, arith}
use Rattle.asn1_values.specs.Lemmas.Identifier.{empty_by, some_by}
use Rattle.asn1.specs.Lemmas.Relative.{read_relative_empty, read_relative_ok, read_relative_err}
use Rattle.std.proofs.Common.{Err}
use Rattle.asn1.proofs.relative_oid.RelativeOid.from_der.Goals as goal
use Rattle.asn1.proofs.relative_oid.RelativeOid.from_der.Goals.{then-is_empty-via-then-is_empty, then-is_empty-via-else-is_empty+then-not-are_arcs}

pub returns-then-is_empty : goal.returns-then-is_empty
returns-then-is_empty c = elim c.then-is_empty.branch [
  | then-is_empty-via-then-is_empty w ↦ inl (read_relative_empty c.args.octets.now (empty_by _ _ c.is_empty.ensures w.if-is_empty.true) ∙ ap Err (sym c.new.ensures))
  | then-is_empty-via-else-is_empty+then-not-are_arcs w ↦ inl (read_relative_err c.args.octets.now c.new.result (sym w.are_arcs.ensures ∙ w.if-not-are_arcs.true) (some_by _ _ c.is_empty.ensures w.if-is_empty.false) c.new.ensures)
]

pub invariant_of-result : goal.invariant_of-result
invariant_of-result c = record {
  is_content = record {
    some = some_by _ _ c.is_empty.ensures c.if-is_empty.false;
    cuts = sym c.are_arcs.ensures ∙ c.if-not-are_arcs.false;
    each = λ k. omega (arith, c.type_inv.octets k);
  };
}

pub returns : goal.returns
returns c = read_relative_ok c.args.octets.now (some_by _ _ c.is_empty.ensures c.if-is_empty.false) (sym c.are_arcs.ensures ∙ c.if-not-are_arcs.false)
