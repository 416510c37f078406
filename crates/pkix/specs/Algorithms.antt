-- Parameters of algorithms, which their identifiers define (RFC 3279, 3370, 4055, 5480, 5754, 5758, 8410).
use Rattle.std.specs.Prelude.{ℕ, ◌≡◌, List, [], ◌∷◌, Option, Some, None, Result, Ok}
use Rattle.std.specs.List.{find}
use Rattle.std.specs.Str.{bytes_eq}
use Rattle.asn1.specs.declared.Tlv.{Tlv}
use Rattle.asn1.specs.Der.{Der, simple_der, option_der}
use Rattle.asn1.specs.ReadError.{ReadError}
use Rattle.asn1.specs.IdentifierValues.{identifier_basic, identifier_of}
use Rattle.asn1.specs.Octets.{null_content}
use Rattle.asn1.specs.LawsOf.Contents.{null_laws}
use Rattle.asn1.specs.LawsOf.Values.{identifier_laws}
use Rattle.asn1.specs.Reading.{all_taken}
use Rattle.asn1.specs.Tlv.{full_octets}
use Rattle.pkix.specs.Identifiers.{of_arcs, typed, ReadsTyped}
use Rattle.pkix.specs.declared.algorithm_parameters.AlgorithmParameters.{AlgorithmParameters}
use Rattle.pkix.specs.declared.algorithm_parameters.AlgorithmParameters.TheVariants as parameters
use Rattle.pkix.specs.declared.algorithm_parameters.KnownAlgorithm.{KnownAlgorithm}
use Rattle.pkix.specs.declared.algorithm_parameters.KnownAlgorithm.TheVariants as known
use Rattle.pkix.specs.declared.algorithm_parameters.ParametersForm.{ParametersForm}
use Rattle.pkix.specs.declared.algorithm_parameters.ParametersForm.TheVariants as form
use Rattle.pkix.specs.declared.algorithm_parameters.TheConstants.KnownAlgorithm.{ALL}
use Rattle.pkix.specs.declared.keys.DssParms.{DssParms}
use Rattle.pkix.specs.declared.keys.RsassaPssParams.{RsassaPssParams}

-- The identifier of each known algorithm.
abbrev pub algorithm_numbers : KnownAlgorithm → List ℕ
algorithm_numbers known.RsaEncryption = of_arcs (1 ∷ 2 ∷ 840 ∷ 113549 ∷ 1 ∷ 1 ∷ 1 ∷ [])
algorithm_numbers known.Sha1WithRsaEncryption = of_arcs (1 ∷ 2 ∷ 840 ∷ 113549 ∷ 1 ∷ 1 ∷ 5 ∷ [])
algorithm_numbers known.Sha224WithRsaEncryption = of_arcs (1 ∷ 2 ∷ 840 ∷ 113549 ∷ 1 ∷ 1 ∷ 14 ∷ [])
algorithm_numbers known.Sha256WithRsaEncryption = of_arcs (1 ∷ 2 ∷ 840 ∷ 113549 ∷ 1 ∷ 1 ∷ 11 ∷ [])
algorithm_numbers known.Sha384WithRsaEncryption = of_arcs (1 ∷ 2 ∷ 840 ∷ 113549 ∷ 1 ∷ 1 ∷ 12 ∷ [])
algorithm_numbers known.Sha512WithRsaEncryption = of_arcs (1 ∷ 2 ∷ 840 ∷ 113549 ∷ 1 ∷ 1 ∷ 13 ∷ [])
algorithm_numbers known.RsassaPss = of_arcs (1 ∷ 2 ∷ 840 ∷ 113549 ∷ 1 ∷ 1 ∷ 10 ∷ [])
algorithm_numbers known.Dsa = of_arcs (1 ∷ 2 ∷ 840 ∷ 10040 ∷ 4 ∷ 1 ∷ [])
algorithm_numbers known.DsaWithSha1 = of_arcs (1 ∷ 2 ∷ 840 ∷ 10040 ∷ 4 ∷ 3 ∷ [])
algorithm_numbers known.DsaWithSha224 = of_arcs (2 ∷ 16 ∷ 840 ∷ 1 ∷ 101 ∷ 3 ∷ 4 ∷ 3 ∷ 1 ∷ [])
algorithm_numbers known.DsaWithSha256 = of_arcs (2 ∷ 16 ∷ 840 ∷ 1 ∷ 101 ∷ 3 ∷ 4 ∷ 3 ∷ 2 ∷ [])
algorithm_numbers known.EcPublicKey = of_arcs (1 ∷ 2 ∷ 840 ∷ 10045 ∷ 2 ∷ 1 ∷ [])
algorithm_numbers known.EcDh = of_arcs (1 ∷ 3 ∷ 132 ∷ 1 ∷ 12 ∷ [])
algorithm_numbers known.EcMqv = of_arcs (1 ∷ 3 ∷ 132 ∷ 1 ∷ 13 ∷ [])
algorithm_numbers known.EcdsaWithSha1 = of_arcs (1 ∷ 2 ∷ 840 ∷ 10045 ∷ 4 ∷ 1 ∷ [])
algorithm_numbers known.EcdsaWithSha224 = of_arcs (1 ∷ 2 ∷ 840 ∷ 10045 ∷ 4 ∷ 3 ∷ 1 ∷ [])
algorithm_numbers known.EcdsaWithSha256 = of_arcs (1 ∷ 2 ∷ 840 ∷ 10045 ∷ 4 ∷ 3 ∷ 2 ∷ [])
algorithm_numbers known.EcdsaWithSha384 = of_arcs (1 ∷ 2 ∷ 840 ∷ 10045 ∷ 4 ∷ 3 ∷ 3 ∷ [])
algorithm_numbers known.EcdsaWithSha512 = of_arcs (1 ∷ 2 ∷ 840 ∷ 10045 ∷ 4 ∷ 3 ∷ 4 ∷ [])
algorithm_numbers known.Ed25519 = of_arcs (1 ∷ 3 ∷ 101 ∷ 112 ∷ [])
algorithm_numbers known.Ed448 = of_arcs (1 ∷ 3 ∷ 101 ∷ 113 ∷ [])
algorithm_numbers known.X25519 = of_arcs (1 ∷ 3 ∷ 101 ∷ 110 ∷ [])
algorithm_numbers known.X448 = of_arcs (1 ∷ 3 ∷ 101 ∷ 111 ∷ [])
algorithm_numbers known.Sha1 = of_arcs (1 ∷ 3 ∷ 14 ∷ 3 ∷ 2 ∷ 26 ∷ [])
algorithm_numbers known.Sha224 = of_arcs (2 ∷ 16 ∷ 840 ∷ 1 ∷ 101 ∷ 3 ∷ 4 ∷ 2 ∷ 4 ∷ [])
algorithm_numbers known.Sha256 = of_arcs (2 ∷ 16 ∷ 840 ∷ 1 ∷ 101 ∷ 3 ∷ 4 ∷ 2 ∷ 1 ∷ [])
algorithm_numbers known.Sha384 = of_arcs (2 ∷ 16 ∷ 840 ∷ 1 ∷ 101 ∷ 3 ∷ 4 ∷ 2 ∷ 2 ∷ [])
algorithm_numbers known.Sha512 = of_arcs (2 ∷ 16 ∷ 840 ∷ 1 ∷ 101 ∷ 3 ∷ 4 ∷ 2 ∷ 3 ∷ [])

-- The known algorithm with that identifier.
abbrev pub algorithm_with : List ℕ → Option KnownAlgorithm
algorithm_with numbers = find (λ algorithm. bytes_eq numbers (algorithm_numbers algorithm)) ALL.now

-- What the parameters of each known algorithm are, by the documents that define it.
abbrev pub form_of : KnownAlgorithm → ParametersForm
form_of known.RsaEncryption = form.Null  -- RFC 3279, 2.3.1
form_of known.Sha1WithRsaEncryption = form.Null  -- RFC 3279, 2.2.1
form_of known.Sha224WithRsaEncryption = form.NullOrAbsent  -- RFC 4055, 5
form_of known.Sha256WithRsaEncryption = form.NullOrAbsent  -- RFC 4055, 5
form_of known.Sha384WithRsaEncryption = form.NullOrAbsent  -- RFC 4055, 5
form_of known.Sha512WithRsaEncryption = form.NullOrAbsent  -- RFC 4055, 5
form_of known.RsassaPss = form.RsassaPssOrAbsent  -- RFC 4055, 3.1
form_of known.Dsa = form.DssOrAbsent  -- RFC 3279, 2.3.2
form_of known.DsaWithSha1 = form.Absent  -- RFC 3279, 2.2.2
form_of known.DsaWithSha224 = form.Absent  -- RFC 5758, 3.1
form_of known.DsaWithSha256 = form.Absent  -- RFC 5758, 3.1
form_of known.EcPublicKey = form.NamedCurve  -- RFC 5480, 2.1.1
form_of known.EcDh = form.NamedCurve  -- RFC 5480, 2.1.2
form_of known.EcMqv = form.NamedCurve  -- RFC 5480, 2.1.2
form_of known.EcdsaWithSha1 = form.Absent  -- RFC 3279, 2.2.3
form_of known.EcdsaWithSha224 = form.Absent  -- RFC 5758, 3.2
form_of known.EcdsaWithSha256 = form.Absent  -- RFC 5758, 3.2
form_of known.EcdsaWithSha384 = form.Absent  -- RFC 5758, 3.2
form_of known.EcdsaWithSha512 = form.Absent  -- RFC 5758, 3.2
form_of known.Ed25519 = form.Absent  -- RFC 8410, 3
form_of known.Ed448 = form.Absent  -- RFC 8410, 3
form_of known.X25519 = form.Absent  -- RFC 8410, 3
form_of known.X448 = form.Absent  -- RFC 8410, 3
form_of known.Sha1 = form.NullOrAbsent  -- RFC 3370, 2.1
form_of known.Sha224 = form.NullOrAbsent  -- RFC 5754, 2.1
form_of known.Sha256 = form.NullOrAbsent  -- RFC 5754, 2.2
form_of known.Sha384 = form.NullOrAbsent  -- RFC 5754, 2.3
form_of known.Sha512 = form.NullOrAbsent  -- RFC 5754, 2.4

-- Parameters in their variant, or none.
abbrev pub or_absent : {V : Type 0} → (V → AlgorithmParameters) → Option V → AlgorithmParameters
or_absent variant (Some value) = variant value
or_absent variant None = parameters.Absent

-- What reading all of these octets as parameters of that form returns, with what Dss-Parms and RSASSA-PSS-params mean.
abbrev pub ReadsForm : Der DssParms → Der RsassaPssParams → ParametersForm → List ℕ → Result AlgorithmParameters ReadError → Type 0
ReadsForm dss pss form.Null octets result = ReadsTyped (typed (simple_der (λ m. m) null_content null_laws) (λ null. parameters.Null)) octets result
ReadsForm dss pss form.NamedCurve octets result = ReadsTyped (typed (simple_der identifier_of identifier_basic identifier_laws) parameters.NamedCurve) octets result
ReadsForm dss pss form.Absent octets result = result ≡ all_taken parameters.Absent octets
ReadsForm dss pss form.NullOrAbsent octets result = ReadsTyped (typed (option_der (simple_der (λ m. m) null_content null_laws)) (or_absent (λ null. parameters.Null))) octets result
ReadsForm dss pss form.DssOrAbsent octets result = ReadsTyped (typed (option_der dss) (or_absent parameters.Dss)) octets result
ReadsForm dss pss form.RsassaPssOrAbsent octets result = ReadsTyped (typed (option_der pss) (or_absent parameters.RsassaPss)) octets result

-- The encoding of the element, or no octets if there is none.
abbrev pub parameter_octets : Option Tlv → List ℕ
parameter_octets (Some element) = full_octets element
parameter_octets None = []

-- What reading the parameters of a known algorithm returns. The parameters of every other algorithm stay as they are.
abbrev pub ReadsParameters : Der DssParms → Der RsassaPssParams → Option KnownAlgorithm → Option Tlv → Result AlgorithmParameters ReadError → Type 0
ReadsParameters dss pss (Some algorithm) element result = ReadsForm dss pss (form_of algorithm) (parameter_octets element) result
ReadsParameters dss pss None element result = result ≡ Ok (parameters.Other element)
