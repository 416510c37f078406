use Rattle.std.proofs.Common.{◌≡◌, Bool, ◌&&◌, true, sym, ◌∙◌}
use Rattle.asn1_core.specs.ReadError.{read_error_eq}
use Rattle.asn1_core.specs.Lemmas.Same.{read_error_eq_decides}
use Rattle.asn1_core.proofs.parser.ParseErrorPartialEq.eq.Goals as goal

and_true : (k p r : Bool) → k ≡ true → r ≡ p → r ≡ (k && p)
and_true k p r e same = rw e same

value : (c : goal.After-eq) → c.eq.result ≡ read_error_eq c.args.self.now c.args.other.now
value c = rw (← c.self.view_is, ← c.other.view_is) (and_true _ _ c.eq.result (sym c.if-same_kind.ensures) c.eq.ensures)

pub returns-then-same_kind-clause-same : goal.returns-then-same_kind-clause-same
returns-then-same_kind-clause-same c =
    let d = read_error_eq_decides c.args.self.now c.args.other.now in
    (λ t. d.0 (sym (value c) ∙ t), λ e. value c ∙ d.1 e)
