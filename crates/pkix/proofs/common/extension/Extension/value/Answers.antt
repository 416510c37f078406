use Rattle.std.proofs.Common.{◌∙◌, sym, ap, refl, Some}
use Rattle.pkix.proofs.common.extension.Extension.value.Goals as goal

pub returns-in-Ok : goal.returns-in-Ok
returns-in-Ok c =
    rw (sym c.with_identifier.ensures ∙ c.in-Some.is ∙ ap Some c.in-AuthorityInfoAccess.is) (c.in-Ok.value, refl, c.in-Ok.ensures.exact)

pub returns-in-Err : goal.returns-in-Err
returns-in-Err c =
    rw (sym c.with_identifier.ensures ∙ c.in-Some.is ∙ ap Some c.in-AuthorityInfoAccess.is) c.in-Err.ensures.exact

pub returns-in-Ok-parse_single : goal.returns-in-Ok-parse_single
returns-in-Ok-parse_single c =
    rw (sym c.with_identifier.ensures ∙ c.in-Some.is ∙ ap Some c.in-AuthorityKeyIdentifier.is) (c.in-Ok-parse_single.value, refl, c.in-Ok-parse_single.ensures.exact)

pub returns-in-Err-parse_single : goal.returns-in-Err-parse_single
returns-in-Err-parse_single c =
    rw (sym c.with_identifier.ensures ∙ c.in-Some.is ∙ ap Some c.in-AuthorityKeyIdentifier.is) c.in-Err-parse_single.ensures.exact

pub returns-in-Ok-parse_single-2 : goal.returns-in-Ok-parse_single-2
returns-in-Ok-parse_single-2 c =
    rw (sym c.with_identifier.ensures ∙ c.in-Some.is ∙ ap Some c.in-BasicConstraints.is) (c.in-Ok-parse_single-2.value, refl, c.in-Ok-parse_single-2.ensures.exact)

pub returns-in-Err-parse_single-2 : goal.returns-in-Err-parse_single-2
returns-in-Err-parse_single-2 c =
    rw (sym c.with_identifier.ensures ∙ c.in-Some.is ∙ ap Some c.in-BasicConstraints.is) c.in-Err-parse_single-2.ensures.exact

pub returns-in-Ok-parse_single-3 : goal.returns-in-Ok-parse_single-3
returns-in-Ok-parse_single-3 c =
    rw (sym c.with_identifier.ensures ∙ c.in-Some.is ∙ ap Some c.in-CertificateIssuer.is) (c.in-Ok-parse_single-3.value, refl, c.in-Ok-parse_single-3.ensures.exact)

pub returns-in-Err-parse_single-3 : goal.returns-in-Err-parse_single-3
returns-in-Err-parse_single-3 c =
    rw (sym c.with_identifier.ensures ∙ c.in-Some.is ∙ ap Some c.in-CertificateIssuer.is) c.in-Err-parse_single-3.ensures.exact

pub returns-in-Ok-parse_single-4 : goal.returns-in-Ok-parse_single-4
returns-in-Ok-parse_single-4 c =
    rw (sym c.with_identifier.ensures ∙ c.in-Some.is ∙ ap Some c.in-CertificatePolicies.is) (c.in-Ok-parse_single-4.value, refl, c.in-Ok-parse_single-4.ensures.exact)

pub returns-in-Err-parse_single-4 : goal.returns-in-Err-parse_single-4
returns-in-Err-parse_single-4 c =
    rw (sym c.with_identifier.ensures ∙ c.in-Some.is ∙ ap Some c.in-CertificatePolicies.is) c.in-Err-parse_single-4.ensures.exact

pub returns-in-Ok-parse_single-5 : goal.returns-in-Ok-parse_single-5
returns-in-Ok-parse_single-5 c =
    rw (sym c.with_identifier.ensures ∙ c.in-Some.is ∙ ap Some c.in-CrlDistributionPoints.is) (c.in-Ok-parse_single-5.value, refl, c.in-Ok-parse_single-5.ensures.exact)

pub returns-in-Err-parse_single-5 : goal.returns-in-Err-parse_single-5
returns-in-Err-parse_single-5 c =
    rw (sym c.with_identifier.ensures ∙ c.in-Some.is ∙ ap Some c.in-CrlDistributionPoints.is) c.in-Err-parse_single-5.ensures.exact

pub returns-in-Ok-parse_single-6 : goal.returns-in-Ok-parse_single-6
returns-in-Ok-parse_single-6 c =
    rw (sym c.with_identifier.ensures ∙ c.in-Some.is ∙ ap Some c.in-CrlNumber.is) (c.in-Ok-parse_single-6.value, refl, c.in-Ok-parse_single-6.ensures.exact)

pub returns-in-Err-parse_single-6 : goal.returns-in-Err-parse_single-6
returns-in-Err-parse_single-6 c =
    rw (sym c.with_identifier.ensures ∙ c.in-Some.is ∙ ap Some c.in-CrlNumber.is) c.in-Err-parse_single-6.ensures.exact

pub returns-in-Ok-parse_single-7 : goal.returns-in-Ok-parse_single-7
returns-in-Ok-parse_single-7 c =
    rw (sym c.with_identifier.ensures ∙ c.in-Some.is ∙ ap Some c.in-CrlReason.is) (c.in-Ok-parse_single-7.value, refl, c.in-Ok-parse_single-7.ensures.exact)

pub returns-in-Err-parse_single-7 : goal.returns-in-Err-parse_single-7
returns-in-Err-parse_single-7 c =
    rw (sym c.with_identifier.ensures ∙ c.in-Some.is ∙ ap Some c.in-CrlReason.is) c.in-Err-parse_single-7.ensures.exact

pub returns-in-Ok-parse_single-8 : goal.returns-in-Ok-parse_single-8
returns-in-Ok-parse_single-8 c =
    rw (sym c.with_identifier.ensures ∙ c.in-Some.is ∙ ap Some c.in-DeltaCrlIndicator.is) (c.in-Ok-parse_single-8.value, refl, c.in-Ok-parse_single-8.ensures.exact)

pub returns-in-Err-parse_single-8 : goal.returns-in-Err-parse_single-8
returns-in-Err-parse_single-8 c =
    rw (sym c.with_identifier.ensures ∙ c.in-Some.is ∙ ap Some c.in-DeltaCrlIndicator.is) c.in-Err-parse_single-8.ensures.exact

pub returns-in-Ok-parse_single-9 : goal.returns-in-Ok-parse_single-9
returns-in-Ok-parse_single-9 c =
    rw (sym c.with_identifier.ensures ∙ c.in-Some.is ∙ ap Some c.in-ExtendedKeyUsage.is) (c.in-Ok-parse_single-9.value, refl, c.in-Ok-parse_single-9.ensures.exact)

pub returns-in-Err-parse_single-9 : goal.returns-in-Err-parse_single-9
returns-in-Err-parse_single-9 c =
    rw (sym c.with_identifier.ensures ∙ c.in-Some.is ∙ ap Some c.in-ExtendedKeyUsage.is) c.in-Err-parse_single-9.ensures.exact

pub returns-in-Ok-parse_single-10 : goal.returns-in-Ok-parse_single-10
returns-in-Ok-parse_single-10 c =
    rw (sym c.with_identifier.ensures ∙ c.in-Some.is ∙ ap Some c.in-FreshestCrl.is) (c.in-Ok-parse_single-10.value, refl, c.in-Ok-parse_single-10.ensures.exact)

pub returns-in-Err-parse_single-10 : goal.returns-in-Err-parse_single-10
returns-in-Err-parse_single-10 c =
    rw (sym c.with_identifier.ensures ∙ c.in-Some.is ∙ ap Some c.in-FreshestCrl.is) c.in-Err-parse_single-10.ensures.exact

pub returns-in-Ok-parse_single-11 : goal.returns-in-Ok-parse_single-11
returns-in-Ok-parse_single-11 c =
    rw (sym c.with_identifier.ensures ∙ c.in-Some.is ∙ ap Some c.in-InhibitAnyPolicy.is) (c.in-Ok-parse_single-11.value, refl, c.in-Ok-parse_single-11.ensures.exact)

pub returns-in-Err-parse_single-11 : goal.returns-in-Err-parse_single-11
returns-in-Err-parse_single-11 c =
    rw (sym c.with_identifier.ensures ∙ c.in-Some.is ∙ ap Some c.in-InhibitAnyPolicy.is) c.in-Err-parse_single-11.ensures.exact

pub returns-in-Ok-parse_single-12 : goal.returns-in-Ok-parse_single-12
returns-in-Ok-parse_single-12 c =
    rw (sym c.with_identifier.ensures ∙ c.in-Some.is ∙ ap Some c.in-InvalidityDate.is) (c.in-Ok-parse_single-12.value, refl, c.in-Ok-parse_single-12.ensures.exact)

pub returns-in-Err-parse_single-12 : goal.returns-in-Err-parse_single-12
returns-in-Err-parse_single-12 c =
    rw (sym c.with_identifier.ensures ∙ c.in-Some.is ∙ ap Some c.in-InvalidityDate.is) c.in-Err-parse_single-12.ensures.exact

pub returns-in-Ok-parse_single-13 : goal.returns-in-Ok-parse_single-13
returns-in-Ok-parse_single-13 c =
    rw (sym c.with_identifier.ensures ∙ c.in-Some.is ∙ ap Some c.in-IssuerAltName.is) (c.in-Ok-parse_single-13.value, refl, c.in-Ok-parse_single-13.ensures.exact)

pub returns-in-Err-parse_single-13 : goal.returns-in-Err-parse_single-13
returns-in-Err-parse_single-13 c =
    rw (sym c.with_identifier.ensures ∙ c.in-Some.is ∙ ap Some c.in-IssuerAltName.is) c.in-Err-parse_single-13.ensures.exact

pub returns-in-Ok-parse_single-14 : goal.returns-in-Ok-parse_single-14
returns-in-Ok-parse_single-14 c =
    rw (sym c.with_identifier.ensures ∙ c.in-Some.is ∙ ap Some c.in-IssuingDistributionPoint.is) (c.in-Ok-parse_single-14.value, refl, c.in-Ok-parse_single-14.ensures.exact)

pub returns-in-Err-parse_single-14 : goal.returns-in-Err-parse_single-14
returns-in-Err-parse_single-14 c =
    rw (sym c.with_identifier.ensures ∙ c.in-Some.is ∙ ap Some c.in-IssuingDistributionPoint.is) c.in-Err-parse_single-14.ensures.exact

pub returns-in-Ok-parse_single-15 : goal.returns-in-Ok-parse_single-15
returns-in-Ok-parse_single-15 c =
    rw (sym c.with_identifier.ensures ∙ c.in-Some.is ∙ ap Some c.in-KeyUsage.is) (c.in-Ok-parse_single-15.value, refl, c.in-Ok-parse_single-15.ensures.exact)

pub returns-in-Err-parse_single-15 : goal.returns-in-Err-parse_single-15
returns-in-Err-parse_single-15 c =
    rw (sym c.with_identifier.ensures ∙ c.in-Some.is ∙ ap Some c.in-KeyUsage.is) c.in-Err-parse_single-15.ensures.exact

pub returns-in-Ok-parse_single-16 : goal.returns-in-Ok-parse_single-16
returns-in-Ok-parse_single-16 c =
    rw (sym c.with_identifier.ensures ∙ c.in-Some.is ∙ ap Some c.in-NameConstraints.is) (c.in-Ok-parse_single-16.value, refl, c.in-Ok-parse_single-16.ensures.exact)

pub returns-in-Err-parse_single-16 : goal.returns-in-Err-parse_single-16
returns-in-Err-parse_single-16 c =
    rw (sym c.with_identifier.ensures ∙ c.in-Some.is ∙ ap Some c.in-NameConstraints.is) c.in-Err-parse_single-16.ensures.exact

pub returns-in-Ok-parse_single-17 : goal.returns-in-Ok-parse_single-17
returns-in-Ok-parse_single-17 c =
    rw (sym c.with_identifier.ensures ∙ c.in-Some.is ∙ ap Some c.in-PolicyConstraints.is) (c.in-Ok-parse_single-17.value, refl, c.in-Ok-parse_single-17.ensures.exact)

pub returns-in-Err-parse_single-17 : goal.returns-in-Err-parse_single-17
returns-in-Err-parse_single-17 c =
    rw (sym c.with_identifier.ensures ∙ c.in-Some.is ∙ ap Some c.in-PolicyConstraints.is) c.in-Err-parse_single-17.ensures.exact

pub returns-in-Ok-parse_single-18 : goal.returns-in-Ok-parse_single-18
returns-in-Ok-parse_single-18 c =
    rw (sym c.with_identifier.ensures ∙ c.in-Some.is ∙ ap Some c.in-PolicyMappings.is) (c.in-Ok-parse_single-18.value, refl, c.in-Ok-parse_single-18.ensures.exact)

pub returns-in-Err-parse_single-18 : goal.returns-in-Err-parse_single-18
returns-in-Err-parse_single-18 c =
    rw (sym c.with_identifier.ensures ∙ c.in-Some.is ∙ ap Some c.in-PolicyMappings.is) c.in-Err-parse_single-18.ensures.exact

pub returns-in-Ok-parse_single-19 : goal.returns-in-Ok-parse_single-19
returns-in-Ok-parse_single-19 c =
    rw (sym c.with_identifier.ensures ∙ c.in-Some.is ∙ ap Some c.in-SubjectAltName.is) (c.in-Ok-parse_single-19.value, refl, c.in-Ok-parse_single-19.ensures.exact)

pub returns-in-Err-parse_single-19 : goal.returns-in-Err-parse_single-19
returns-in-Err-parse_single-19 c =
    rw (sym c.with_identifier.ensures ∙ c.in-Some.is ∙ ap Some c.in-SubjectAltName.is) c.in-Err-parse_single-19.ensures.exact

pub returns-in-Ok-parse_single-20 : goal.returns-in-Ok-parse_single-20
returns-in-Ok-parse_single-20 c =
    rw (sym c.with_identifier.ensures ∙ c.in-Some.is ∙ ap Some c.in-SubjectDirectoryAttributes.is) (c.in-Ok-parse_single-20.value, refl, c.in-Ok-parse_single-20.ensures.exact)

pub returns-in-Err-parse_single-20 : goal.returns-in-Err-parse_single-20
returns-in-Err-parse_single-20 c =
    rw (sym c.with_identifier.ensures ∙ c.in-Some.is ∙ ap Some c.in-SubjectDirectoryAttributes.is) c.in-Err-parse_single-20.ensures.exact

pub returns-in-Ok-parse_single-21 : goal.returns-in-Ok-parse_single-21
returns-in-Ok-parse_single-21 c =
    rw (sym c.with_identifier.ensures ∙ c.in-Some.is ∙ ap Some c.in-SubjectInfoAccess.is) (c.in-Ok-parse_single-21.value, refl, c.in-Ok-parse_single-21.ensures.exact)

pub returns-in-Err-parse_single-21 : goal.returns-in-Err-parse_single-21
returns-in-Err-parse_single-21 c =
    rw (sym c.with_identifier.ensures ∙ c.in-Some.is ∙ ap Some c.in-SubjectInfoAccess.is) c.in-Err-parse_single-21.ensures.exact

pub returns-in-Ok-parse_single-22 : goal.returns-in-Ok-parse_single-22
returns-in-Ok-parse_single-22 c =
    rw (sym c.with_identifier.ensures ∙ c.in-Some.is ∙ ap Some c.in-SubjectKeyIdentifier.is) (c.in-Ok-parse_single-22.value, refl, c.in-Ok-parse_single-22.ensures.exact)

pub returns-in-Err-parse_single-22 : goal.returns-in-Err-parse_single-22
returns-in-Err-parse_single-22 c =
    rw (sym c.with_identifier.ensures ∙ c.in-Some.is ∙ ap Some c.in-SubjectKeyIdentifier.is) c.in-Err-parse_single-22.ensures.exact
