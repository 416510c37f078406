use Rattle.std.proofs.Common.{refl}
use Rattle.asn1.specs.Base128.{leading_number}
use Rattle.asn1.specs.Identifier.{numbers_in, read_identifier}
use Rattle.pkix.proofs.extension_values.KnownExtension.contents.Goals as goal

pub returns-in-AuthorityInfoAccess-clause-octets : goal.returns-in-AuthorityInfoAccess-clause-octets
unfolding read_identifier numbers_in leading_number
returns-in-AuthorityInfoAccess-clause-octets c = rw c.in-AuthorityInfoAccess.is refl

pub returns-in-AuthorityInfoAccess-clause-found : goal.returns-in-AuthorityInfoAccess-clause-found
returns-in-AuthorityInfoAccess-clause-found c = rw c.in-AuthorityInfoAccess.is refl

pub returns-in-AuthorityKeyIdentifier-clause-octets : goal.returns-in-AuthorityKeyIdentifier-clause-octets
unfolding read_identifier numbers_in leading_number
returns-in-AuthorityKeyIdentifier-clause-octets c = rw c.in-AuthorityKeyIdentifier.is refl

pub returns-in-AuthorityKeyIdentifier-clause-found : goal.returns-in-AuthorityKeyIdentifier-clause-found
returns-in-AuthorityKeyIdentifier-clause-found c = rw c.in-AuthorityKeyIdentifier.is refl

pub returns-in-BasicConstraints-clause-octets : goal.returns-in-BasicConstraints-clause-octets
unfolding read_identifier numbers_in leading_number
returns-in-BasicConstraints-clause-octets c = rw c.in-BasicConstraints.is refl

pub returns-in-BasicConstraints-clause-found : goal.returns-in-BasicConstraints-clause-found
returns-in-BasicConstraints-clause-found c = rw c.in-BasicConstraints.is refl

pub returns-in-CertificateIssuer-clause-octets : goal.returns-in-CertificateIssuer-clause-octets
unfolding read_identifier numbers_in leading_number
returns-in-CertificateIssuer-clause-octets c = rw c.in-CertificateIssuer.is refl

pub returns-in-CertificateIssuer-clause-found : goal.returns-in-CertificateIssuer-clause-found
returns-in-CertificateIssuer-clause-found c = rw c.in-CertificateIssuer.is refl

pub returns-in-CertificatePolicies-clause-octets : goal.returns-in-CertificatePolicies-clause-octets
unfolding read_identifier numbers_in leading_number
returns-in-CertificatePolicies-clause-octets c = rw c.in-CertificatePolicies.is refl

pub returns-in-CertificatePolicies-clause-found : goal.returns-in-CertificatePolicies-clause-found
returns-in-CertificatePolicies-clause-found c = rw c.in-CertificatePolicies.is refl

pub returns-in-CrlDistributionPoints-clause-octets : goal.returns-in-CrlDistributionPoints-clause-octets
unfolding read_identifier numbers_in leading_number
returns-in-CrlDistributionPoints-clause-octets c = rw c.in-CrlDistributionPoints.is refl

pub returns-in-CrlDistributionPoints-clause-found : goal.returns-in-CrlDistributionPoints-clause-found
returns-in-CrlDistributionPoints-clause-found c = rw c.in-CrlDistributionPoints.is refl

pub returns-in-CrlNumber-clause-octets : goal.returns-in-CrlNumber-clause-octets
unfolding read_identifier numbers_in leading_number
returns-in-CrlNumber-clause-octets c = rw c.in-CrlNumber.is refl

pub returns-in-CrlNumber-clause-found : goal.returns-in-CrlNumber-clause-found
returns-in-CrlNumber-clause-found c = rw c.in-CrlNumber.is refl

pub returns-in-CrlReason-clause-octets : goal.returns-in-CrlReason-clause-octets
unfolding read_identifier numbers_in leading_number
returns-in-CrlReason-clause-octets c = rw c.in-CrlReason.is refl

pub returns-in-CrlReason-clause-found : goal.returns-in-CrlReason-clause-found
returns-in-CrlReason-clause-found c = rw c.in-CrlReason.is refl

pub returns-in-DeltaCrlIndicator-clause-octets : goal.returns-in-DeltaCrlIndicator-clause-octets
unfolding read_identifier numbers_in leading_number
returns-in-DeltaCrlIndicator-clause-octets c = rw c.in-DeltaCrlIndicator.is refl

pub returns-in-DeltaCrlIndicator-clause-found : goal.returns-in-DeltaCrlIndicator-clause-found
returns-in-DeltaCrlIndicator-clause-found c = rw c.in-DeltaCrlIndicator.is refl

pub returns-in-ExtendedKeyUsage-clause-octets : goal.returns-in-ExtendedKeyUsage-clause-octets
unfolding read_identifier numbers_in leading_number
returns-in-ExtendedKeyUsage-clause-octets c = rw c.in-ExtendedKeyUsage.is refl

pub returns-in-ExtendedKeyUsage-clause-found : goal.returns-in-ExtendedKeyUsage-clause-found
returns-in-ExtendedKeyUsage-clause-found c = rw c.in-ExtendedKeyUsage.is refl

pub returns-in-FreshestCrl-clause-octets : goal.returns-in-FreshestCrl-clause-octets
unfolding read_identifier numbers_in leading_number
returns-in-FreshestCrl-clause-octets c = rw c.in-FreshestCrl.is refl

pub returns-in-FreshestCrl-clause-found : goal.returns-in-FreshestCrl-clause-found
returns-in-FreshestCrl-clause-found c = rw c.in-FreshestCrl.is refl

pub returns-in-InhibitAnyPolicy-clause-octets : goal.returns-in-InhibitAnyPolicy-clause-octets
unfolding read_identifier numbers_in leading_number
returns-in-InhibitAnyPolicy-clause-octets c = rw c.in-InhibitAnyPolicy.is refl

pub returns-in-InhibitAnyPolicy-clause-found : goal.returns-in-InhibitAnyPolicy-clause-found
returns-in-InhibitAnyPolicy-clause-found c = rw c.in-InhibitAnyPolicy.is refl

pub returns-in-InvalidityDate-clause-octets : goal.returns-in-InvalidityDate-clause-octets
unfolding read_identifier numbers_in leading_number
returns-in-InvalidityDate-clause-octets c = rw c.in-InvalidityDate.is refl

pub returns-in-InvalidityDate-clause-found : goal.returns-in-InvalidityDate-clause-found
returns-in-InvalidityDate-clause-found c = rw c.in-InvalidityDate.is refl

pub returns-in-IssuerAltName-clause-octets : goal.returns-in-IssuerAltName-clause-octets
unfolding read_identifier numbers_in leading_number
returns-in-IssuerAltName-clause-octets c = rw c.in-IssuerAltName.is refl

pub returns-in-IssuerAltName-clause-found : goal.returns-in-IssuerAltName-clause-found
returns-in-IssuerAltName-clause-found c = rw c.in-IssuerAltName.is refl

pub returns-in-IssuingDistributionPoint-clause-octets : goal.returns-in-IssuingDistributionPoint-clause-octets
unfolding read_identifier numbers_in leading_number
returns-in-IssuingDistributionPoint-clause-octets c = rw c.in-IssuingDistributionPoint.is refl

pub returns-in-IssuingDistributionPoint-clause-found : goal.returns-in-IssuingDistributionPoint-clause-found
returns-in-IssuingDistributionPoint-clause-found c = rw c.in-IssuingDistributionPoint.is refl

pub returns-in-KeyUsage-clause-octets : goal.returns-in-KeyUsage-clause-octets
unfolding read_identifier numbers_in leading_number
returns-in-KeyUsage-clause-octets c = rw c.in-KeyUsage.is refl

pub returns-in-KeyUsage-clause-found : goal.returns-in-KeyUsage-clause-found
returns-in-KeyUsage-clause-found c = rw c.in-KeyUsage.is refl

pub returns-in-NameConstraints-clause-octets : goal.returns-in-NameConstraints-clause-octets
unfolding read_identifier numbers_in leading_number
returns-in-NameConstraints-clause-octets c = rw c.in-NameConstraints.is refl

pub returns-in-NameConstraints-clause-found : goal.returns-in-NameConstraints-clause-found
returns-in-NameConstraints-clause-found c = rw c.in-NameConstraints.is refl

pub returns-in-PolicyConstraints-clause-octets : goal.returns-in-PolicyConstraints-clause-octets
unfolding read_identifier numbers_in leading_number
returns-in-PolicyConstraints-clause-octets c = rw c.in-PolicyConstraints.is refl

pub returns-in-PolicyConstraints-clause-found : goal.returns-in-PolicyConstraints-clause-found
returns-in-PolicyConstraints-clause-found c = rw c.in-PolicyConstraints.is refl

pub returns-in-PolicyMappings-clause-octets : goal.returns-in-PolicyMappings-clause-octets
unfolding read_identifier numbers_in leading_number
returns-in-PolicyMappings-clause-octets c = rw c.in-PolicyMappings.is refl

pub returns-in-PolicyMappings-clause-found : goal.returns-in-PolicyMappings-clause-found
returns-in-PolicyMappings-clause-found c = rw c.in-PolicyMappings.is refl

pub returns-in-SubjectAltName-clause-octets : goal.returns-in-SubjectAltName-clause-octets
unfolding read_identifier numbers_in leading_number
returns-in-SubjectAltName-clause-octets c = rw c.in-SubjectAltName.is refl

pub returns-in-SubjectAltName-clause-found : goal.returns-in-SubjectAltName-clause-found
returns-in-SubjectAltName-clause-found c = rw c.in-SubjectAltName.is refl

pub returns-in-SubjectDirectoryAttributes-clause-octets : goal.returns-in-SubjectDirectoryAttributes-clause-octets
unfolding read_identifier numbers_in leading_number
returns-in-SubjectDirectoryAttributes-clause-octets c = rw c.in-SubjectDirectoryAttributes.is refl

pub returns-in-SubjectDirectoryAttributes-clause-found : goal.returns-in-SubjectDirectoryAttributes-clause-found
returns-in-SubjectDirectoryAttributes-clause-found c = rw c.in-SubjectDirectoryAttributes.is refl

pub returns-in-SubjectInfoAccess-clause-octets : goal.returns-in-SubjectInfoAccess-clause-octets
unfolding read_identifier numbers_in leading_number
returns-in-SubjectInfoAccess-clause-octets c = rw c.in-SubjectInfoAccess.is refl

pub returns-in-SubjectInfoAccess-clause-found : goal.returns-in-SubjectInfoAccess-clause-found
returns-in-SubjectInfoAccess-clause-found c = rw c.in-SubjectInfoAccess.is refl

pub returns-in-SubjectKeyIdentifier-clause-octets : goal.returns-in-SubjectKeyIdentifier-clause-octets
unfolding read_identifier numbers_in leading_number
returns-in-SubjectKeyIdentifier-clause-octets c = rw c.in-SubjectKeyIdentifier.is refl

pub returns-in-SubjectKeyIdentifier-clause-found : goal.returns-in-SubjectKeyIdentifier-clause-found
returns-in-SubjectKeyIdentifier-clause-found c = rw c.in-SubjectKeyIdentifier.is refl
