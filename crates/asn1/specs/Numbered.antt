-- Values with numbers from a list: ENUMERATED, and INTEGER with named numbers alone (X.680 19.3, 20; X.690 8.3, 8.4).
use Rattle.std.specs.Prelude.{ℕ, pos, List}
use Rattle.asn1_core.specs.declared.tag.Tag.{Tag}
use Rattle.asn1_core.specs.Der.{Der, simple_der}
use Rattle.asn1.specs.Listed.{numbered_content}
use Rattle.asn1.specs.LawsOf.Numbered.{numbered_laws}

-- A type whose values mean these numbers.
abbrev pub numbered : {V : Type 0} → Tag → (V → ℕ) → List ℕ → Der V
numbered tag number numbers = simple_der (λ v. pos (number v)) (numbered_content tag numbers) (numbered_laws tag numbers)
