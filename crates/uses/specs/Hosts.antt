-- Which hosts a certificate names (RFC 5280, 4.2.1.6).
use Rattle.std.specs.Prelude.{ℕ, ◌≡◌, Bool, false, List, [], ◌∷◌, map, Option, Some, None, nat_eq}
use Rattle.std.specs.Cmp.Lexicographic.{pointwise}
use Rattle.std.specs.List.{list_any}
use Rattle.asn1.specs.Among.{Among8, third_of_8}
use Rattle.asn1.specs.Der.{Der}
use Rattle.asn1.specs.IdentifierValues.{identifier_of}
use Rattle.pkix.specs.declared.common.extension.Extension.{Extension}

-- Whether an extension is a subjectAltName, by its identifier 2.5.29.17 in octets.
abbrev pub is_alt_name : Extension → Bool
is_alt_name extension = pointwise nat_eq (identifier_of extension.extn_id) (85 ∷ 29 ∷ 17 ∷ [])

-- Whether a GeneralName, the third of whose alternatives is dNSName, is a host.
abbrev pub is_host : {A B D E F G H R : Type 0} → List ℕ → Among8 A B (List ℕ) D E F G H R → Bool
is_host host (third_of_8 name) = pointwise nat_eq name host
is_host host _ = false

-- The answer of the first subjectAltName: whether one of the names that its octets encode passes; no, if there is none.
abbrev pub Answers : {N : Type 0} → (d : Der N) → (List d.Meaning → List ℕ → Type 0) → (d.Meaning → Bool) → Option Extension → Bool → Type 0
Answers d encode passes None answer = answer ≡ false
Answers {N} d encode passes (Some extension) answer = (names : List N)
    × encode (map d.meaning names) extension.extn_value.now × (answer ≡ list_any (λ name. passes (d.meaning name)) names)
