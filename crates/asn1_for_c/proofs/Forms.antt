-- The forms of an object.
use Rattle.std.proofs.Common.{◌≡◌, ◌⊎◌, inl, inr, Bool, false, Option, Some, None, IsTrue, IfSome, sym, subst, ◌∙◌}
use Rattle.asn1.specs.Lemmas.Facts.{not_both, Some_injective}

-- Octets that aren't read don't have the form.
pub unread : {A F : Type 0} (read : Bool) → (A → F → IsTrue read) → read ≡ false → A → F → ⊥
unread read only other is fits = not_both read (only is fits) other

pub neither : {A B F : Type 0} → (A → F → ⊥) → (B → F → ⊥) → A ⊎ B → F → ⊥
neither a b (inl x) fits = a x fits
neither a b (inr y) fits = b y fits

-- What holds of a value that was found holds of the one that was asked for.
pub at_some : {X : Type 0} (asked found : Option X) (x : X) (P : X → Type 0) → IfSome asked (λ _. found ≡ asked) → found ≡ Some x → P x → IfSome asked P
at_some None found x P same is p = tt
at_some (Some y) found x P same is p = subst P (Some_injective x y (sym is ∙ same)) p
