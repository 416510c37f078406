-- What several writes leave in an `InlineText`.
use Rattle.std.proofs.Common.{◌≡◌, ℕ, List, [], ◌∷◌, ◌++◌, sym, ap, subst, ◌∙◌, append_assoc}
use Rattle.std.proofs.lemmas.List.{append-nil}
use Rattle.std.specs.Fmt.{WritesInCalls}
use Rattle.std.specs.Fmt.InlineText.{inline_text, IsIntact, AppendsIfIntact}
use Rattle.std.specs.List.{FoldsTo, concat}
use Rattle.std.specs.declared.fmt.InlineText.{InlineText}

module _ {n : ℕ} where
  AppendsIfIntact_concat : (s : InlineText n) (parts : List (List ℕ)) (t : InlineText n) → FoldsTo AppendsIfIntact s parts t → AppendsIfIntact s (concat parts) t
  AppendsIfIntact_concat s [] t same intact = (subst IsIntact same intact, ap inline_text (sym same) ∙ sym (append-nil (inline_text s)))
  AppendsIfIntact_concat s (x ∷ parts) t calls intact =
      let first = calls.1 intact in
      let rest = AppendsIfIntact_concat calls.0 parts t calls.2 first.0 in
      (rest.0, rest.1 ∙ ap (λ l. l ++ concat parts) first.1 ∙ append_assoc (inline_text s) x (concat parts))

  -- Several writes append what they wrote together.
  pub inline_text_WritesInCalls : (s : InlineText n) (octets : List ℕ) (t : InlineText n) → WritesInCalls AppendsIfIntact s octets t → IsIntact s → inline_text s ≡ [] → inline_text t ≡ octets
  inline_text_WritesInCalls s octets t wrote intact none =
      let all = subst (λ l. AppendsIfIntact s l t) wrote.whole (AppendsIfIntact_concat s wrote.parts t wrote.calls) intact in
      all.1 ∙ ap (λ l. l ++ octets) none
