use Rattle.std.proofs.Common.{refl, rules}
use Rattle.asn1_for_c.proofs.objects.check_one.Goals as goal

pub returns-in-Certificate-clause-exact : goal.returns-in-Certificate-clause-exact
returns-in-Certificate-clause-exact c =
    let told = c.check_object.ensures in
    rw c.in-Certificate.is (_, ((told.exact.0, refl), told.exact.1, told.exact.2, told.exact.3), told.place)

pub returns-in-Certificate-clause-number : goal.returns-in-Certificate-clause-number
returns-in-Certificate-clause-number c = c.check_object.ensures.number

pub returns-in-Crl-clause-exact : goal.returns-in-Crl-clause-exact
returns-in-Crl-clause-exact c =
    let told = c.check_object-in-Crl.ensures in
    rw c.in-Crl.is (_, ((told.exact.0, refl), told.exact.1, told.exact.2, told.exact.3), told.place)

pub returns-in-Crl-clause-number : goal.returns-in-Crl-clause-number
returns-in-Crl-clause-number c = c.check_object-in-Crl.ensures.number

pub returns-in-Request-clause-exact : goal.returns-in-Request-clause-exact
returns-in-Request-clause-exact c =
    let told = c.check_object-in-Request.ensures in
    rw c.in-Request.is (_, ((told.exact.0, refl), told.exact.1, told.exact.2, told.exact.3), told.place)

pub returns-in-Request-clause-number : goal.returns-in-Request-clause-number
returns-in-Request-clause-number c = c.check_object-in-Request.ensures.number

pub returns-in-PublicKey-clause-exact : goal.returns-in-PublicKey-clause-exact
returns-in-PublicKey-clause-exact c =
    let told = c.check_object-in-PublicKey.ensures in
    rw c.in-PublicKey.is (_, ((told.exact.0, refl), told.exact.1, told.exact.2, told.exact.3), told.place)

pub returns-in-PublicKey-clause-number : goal.returns-in-PublicKey-clause-number
returns-in-PublicKey-clause-number c = c.check_object-in-PublicKey.ensures.number

pub returns-in-PrivateKey-clause-exact : goal.returns-in-PrivateKey-clause-exact
returns-in-PrivateKey-clause-exact c =
    let told = c.check_object-in-PrivateKey.ensures in
    rw c.in-PrivateKey.is (_, ((told.exact.0, refl), told.exact.1, told.exact.2, told.exact.3), told.place)

pub returns-in-PrivateKey-clause-number : goal.returns-in-PrivateKey-clause-number
returns-in-PrivateKey-clause-number c = c.check_object-in-PrivateKey.ensures.number

pub returns-in-EcPrivateKey-clause-exact : goal.returns-in-EcPrivateKey-clause-exact
returns-in-EcPrivateKey-clause-exact c =
    let told = c.check_object-in-EcPrivateKey.ensures in
    rw c.in-EcPrivateKey.is (_, ((told.exact.0, refl), told.exact.1, told.exact.2, told.exact.3), told.place)

pub returns-in-EcPrivateKey-clause-number : goal.returns-in-EcPrivateKey-clause-number
returns-in-EcPrivateKey-clause-number c = c.check_object-in-EcPrivateKey.ensures.number

pub returns-in-RsaPrivateKey-clause-exact : goal.returns-in-RsaPrivateKey-clause-exact
returns-in-RsaPrivateKey-clause-exact c =
    let told = c.check_object-in-RsaPrivateKey.ensures in
    rw c.in-RsaPrivateKey.is (_, ((told.exact.0, refl), told.exact.1, told.exact.2, told.exact.3), told.place)

pub returns-in-RsaPrivateKey-clause-number : goal.returns-in-RsaPrivateKey-clause-number
returns-in-RsaPrivateKey-clause-number c = c.check_object-in-RsaPrivateKey.ensures.number

pub returns-in-RsaPublicKey-clause-exact : goal.returns-in-RsaPublicKey-clause-exact
returns-in-RsaPublicKey-clause-exact c =
    let told = c.check_object-in-RsaPublicKey.ensures in
    rw c.in-RsaPublicKey.is (_, ((told.exact.0, refl), told.exact.1, told.exact.2, told.exact.3), told.place)

pub returns-in-RsaPublicKey-clause-number : goal.returns-in-RsaPublicKey-clause-number
returns-in-RsaPublicKey-clause-number c = c.check_object-in-RsaPublicKey.ensures.number

pub returns-in-EcdsaSignature-clause-exact : goal.returns-in-EcdsaSignature-clause-exact
returns-in-EcdsaSignature-clause-exact c =
    let told = c.check_object-in-EcdsaSignature.ensures in
    rw c.in-EcdsaSignature.is (_, ((told.exact.0, refl), told.exact.1, told.exact.2, told.exact.3), told.place)

pub returns-in-EcdsaSignature-clause-number : goal.returns-in-EcdsaSignature-clause-number
returns-in-EcdsaSignature-clause-number c = c.check_object-in-EcdsaSignature.ensures.number

pub returns-in-DigestInfo-clause-exact : goal.returns-in-DigestInfo-clause-exact
returns-in-DigestInfo-clause-exact c =
    let told = c.check_object-in-DigestInfo.ensures in
    rw c.in-DigestInfo.is (_, ((told.exact.0, refl), told.exact.1, told.exact.2, told.exact.3), told.place)

pub returns-in-DigestInfo-clause-number : goal.returns-in-DigestInfo-clause-number
returns-in-DigestInfo-clause-number c = c.check_object-in-DigestInfo.ensures.number

pub returns-in-SignedData-clause-exact : goal.returns-in-SignedData-clause-exact
returns-in-SignedData-clause-exact c =
    let told = c.check_object-in-SignedData.ensures in
    rw c.in-SignedData.is (_, ((told.exact.0, refl), told.exact.1, told.exact.2, told.exact.3), told.place)

pub returns-in-SignedData-clause-number : goal.returns-in-SignedData-clause-number
returns-in-SignedData-clause-number c = c.check_object-in-SignedData.ensures.number

pub returns-in-TimestampRequest-clause-exact : goal.returns-in-TimestampRequest-clause-exact
returns-in-TimestampRequest-clause-exact c =
    let told = c.check_object-in-TimestampRequest.ensures in
    rw c.in-TimestampRequest.is (_, ((told.exact.0, refl), told.exact.1, told.exact.2, told.exact.3), told.place)

pub returns-in-TimestampRequest-clause-number : goal.returns-in-TimestampRequest-clause-number
returns-in-TimestampRequest-clause-number c = c.check_object-in-TimestampRequest.ensures.number

pub returns-in-TimestampResponse-clause-exact : goal.returns-in-TimestampResponse-clause-exact
returns-in-TimestampResponse-clause-exact c =
    let told = c.check_object-in-TimestampResponse.ensures in
    rw c.in-TimestampResponse.is (_, ((told.exact.0, refl), told.exact.1, told.exact.2, told.exact.3), told.place)

pub returns-in-TimestampResponse-clause-number : goal.returns-in-TimestampResponse-clause-number
returns-in-TimestampResponse-clause-number c = c.check_object-in-TimestampResponse.ensures.number

pub check_object-requires-in-Crl : goal.check_object-requires-in-Crl
check_object-requires-in-Crl c κs = ((refl, tt), (c.certificate_list_is_lawful.ensures.0, search rules))
