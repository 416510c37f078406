-- Values of extensions, whose types their identifiers name (RFC 5280, 4.2 and 5).
use Rattle.std.specs.Prelude.{ℕ, ◌≡◌, List, [], ◌∷◌, Option, Some, None, Result, Ok}
use Rattle.std.specs.List.{find}
use Rattle.std.specs.Str.{bytes_eq}
use Rattle.std.specs.Borrow.{Bor}
use Rattle.asn1.specs.ReadError.{ReadError}
use Rattle.pkix.specs.Identifiers.{of_arcs, ValueType, ReadsTyped}
use Rattle.pkix.specs.declared.extension_values.KnownExtension.{KnownExtension}
use Rattle.pkix.specs.declared.extension_values.KnownExtension.TheVariants as known
use Rattle.pkix.specs.declared.extension_values.TheConstants.KnownExtension.{ALL}

-- The identifier of each known extension.
abbrev pub extension_numbers : KnownExtension → List ℕ
extension_numbers known.AuthorityInfoAccess = of_arcs (1 ∷ 3 ∷ 6 ∷ 1 ∷ 5 ∷ 5 ∷ 7 ∷ 1 ∷ 1 ∷ [])
extension_numbers known.AuthorityKeyIdentifier = of_arcs (2 ∷ 5 ∷ 29 ∷ 35 ∷ [])
extension_numbers known.BasicConstraints = of_arcs (2 ∷ 5 ∷ 29 ∷ 19 ∷ [])
extension_numbers known.CertificateIssuer = of_arcs (2 ∷ 5 ∷ 29 ∷ 29 ∷ [])
extension_numbers known.CertificatePolicies = of_arcs (2 ∷ 5 ∷ 29 ∷ 32 ∷ [])
extension_numbers known.CrlDistributionPoints = of_arcs (2 ∷ 5 ∷ 29 ∷ 31 ∷ [])
extension_numbers known.CrlNumber = of_arcs (2 ∷ 5 ∷ 29 ∷ 20 ∷ [])
extension_numbers known.CrlReason = of_arcs (2 ∷ 5 ∷ 29 ∷ 21 ∷ [])
extension_numbers known.DeltaCrlIndicator = of_arcs (2 ∷ 5 ∷ 29 ∷ 27 ∷ [])
extension_numbers known.ExtendedKeyUsage = of_arcs (2 ∷ 5 ∷ 29 ∷ 37 ∷ [])
extension_numbers known.FreshestCrl = of_arcs (2 ∷ 5 ∷ 29 ∷ 46 ∷ [])
extension_numbers known.InhibitAnyPolicy = of_arcs (2 ∷ 5 ∷ 29 ∷ 54 ∷ [])
extension_numbers known.InvalidityDate = of_arcs (2 ∷ 5 ∷ 29 ∷ 24 ∷ [])
extension_numbers known.IssuerAltName = of_arcs (2 ∷ 5 ∷ 29 ∷ 18 ∷ [])
extension_numbers known.IssuingDistributionPoint = of_arcs (2 ∷ 5 ∷ 29 ∷ 28 ∷ [])
extension_numbers known.KeyUsage = of_arcs (2 ∷ 5 ∷ 29 ∷ 15 ∷ [])
extension_numbers known.NameConstraints = of_arcs (2 ∷ 5 ∷ 29 ∷ 30 ∷ [])
extension_numbers known.PolicyConstraints = of_arcs (2 ∷ 5 ∷ 29 ∷ 36 ∷ [])
extension_numbers known.PolicyMappings = of_arcs (2 ∷ 5 ∷ 29 ∷ 33 ∷ [])
extension_numbers known.SubjectAltName = of_arcs (2 ∷ 5 ∷ 29 ∷ 17 ∷ [])
extension_numbers known.SubjectDirectoryAttributes = of_arcs (2 ∷ 5 ∷ 29 ∷ 9 ∷ [])
extension_numbers known.SubjectInfoAccess = of_arcs (1 ∷ 3 ∷ 6 ∷ 1 ∷ 5 ∷ 5 ∷ 7 ∷ 1 ∷ 11 ∷ [])
extension_numbers known.SubjectKeyIdentifier = of_arcs (2 ∷ 5 ∷ 29 ∷ 14 ∷ [])

-- The known extension with that identifier.
abbrev pub extension_with : List ℕ → Option KnownExtension
extension_with numbers = find (λ extension. bytes_eq numbers (extension_numbers extension)) ALL.now

-- What reading the octets as a value of the type of a known extension returns; for every other extension, the octets.
abbrev pub ReadsExtension : {E : Type 0} → (KnownExtension → ValueType E) → (Bor (List ℕ) → E) → Option KnownExtension → Bor (List ℕ) → Result E ReadError → Type 0
ReadsExtension types other (Some extension) octets result = ReadsTyped (types extension) octets.now result
ReadsExtension types other None octets result = result ≡ Ok (other octets)
