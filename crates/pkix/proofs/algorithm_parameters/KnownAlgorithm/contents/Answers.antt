use Rattle.std.proofs.Common.{refl}
use Rattle.asn1.specs.Base128.{leading_number}
use Rattle.asn1.specs.Identifier.{numbers_in, read_identifier}
use Rattle.pkix.proofs.algorithm_parameters.KnownAlgorithm.contents.Goals as goal

pub returns-in-RsaEncryption-clause-octets : goal.returns-in-RsaEncryption-clause-octets
unfolding read_identifier numbers_in leading_number
returns-in-RsaEncryption-clause-octets c = rw c.in-RsaEncryption.is refl

pub returns-in-Sha1WithRsaEncryption-clause-octets : goal.returns-in-Sha1WithRsaEncryption-clause-octets
unfolding read_identifier numbers_in leading_number
returns-in-Sha1WithRsaEncryption-clause-octets c = rw c.in-Sha1WithRsaEncryption.is refl

pub returns-in-Sha224WithRsaEncryption-clause-octets : goal.returns-in-Sha224WithRsaEncryption-clause-octets
unfolding read_identifier numbers_in leading_number
returns-in-Sha224WithRsaEncryption-clause-octets c = rw c.in-Sha224WithRsaEncryption.is refl

pub returns-in-Sha256WithRsaEncryption-clause-octets : goal.returns-in-Sha256WithRsaEncryption-clause-octets
unfolding read_identifier numbers_in leading_number
returns-in-Sha256WithRsaEncryption-clause-octets c = rw c.in-Sha256WithRsaEncryption.is refl

pub returns-in-Sha384WithRsaEncryption-clause-octets : goal.returns-in-Sha384WithRsaEncryption-clause-octets
unfolding read_identifier numbers_in leading_number
returns-in-Sha384WithRsaEncryption-clause-octets c = rw c.in-Sha384WithRsaEncryption.is refl

pub returns-in-Sha512WithRsaEncryption-clause-octets : goal.returns-in-Sha512WithRsaEncryption-clause-octets
unfolding read_identifier numbers_in leading_number
returns-in-Sha512WithRsaEncryption-clause-octets c = rw c.in-Sha512WithRsaEncryption.is refl

pub returns-in-RsassaPss-clause-octets : goal.returns-in-RsassaPss-clause-octets
unfolding read_identifier numbers_in leading_number
returns-in-RsassaPss-clause-octets c = rw c.in-RsassaPss.is refl

pub returns-in-Dsa-clause-octets : goal.returns-in-Dsa-clause-octets
unfolding read_identifier numbers_in leading_number
returns-in-Dsa-clause-octets c = rw c.in-Dsa.is refl

pub returns-in-DsaWithSha1-clause-octets : goal.returns-in-DsaWithSha1-clause-octets
unfolding read_identifier numbers_in leading_number
returns-in-DsaWithSha1-clause-octets c = rw c.in-DsaWithSha1.is refl

pub returns-in-DsaWithSha224-clause-octets : goal.returns-in-DsaWithSha224-clause-octets
unfolding read_identifier numbers_in leading_number
returns-in-DsaWithSha224-clause-octets c = rw c.in-DsaWithSha224.is refl

pub returns-in-DsaWithSha256-clause-octets : goal.returns-in-DsaWithSha256-clause-octets
unfolding read_identifier numbers_in leading_number
returns-in-DsaWithSha256-clause-octets c = rw c.in-DsaWithSha256.is refl

pub returns-in-EcPublicKey-clause-octets : goal.returns-in-EcPublicKey-clause-octets
unfolding read_identifier numbers_in leading_number
returns-in-EcPublicKey-clause-octets c = rw c.in-EcPublicKey.is refl

pub returns-in-EcDh-clause-octets : goal.returns-in-EcDh-clause-octets
unfolding read_identifier numbers_in leading_number
returns-in-EcDh-clause-octets c = rw c.in-EcDh.is refl

pub returns-in-EcMqv-clause-octets : goal.returns-in-EcMqv-clause-octets
unfolding read_identifier numbers_in leading_number
returns-in-EcMqv-clause-octets c = rw c.in-EcMqv.is refl

pub returns-in-EcdsaWithSha1-clause-octets : goal.returns-in-EcdsaWithSha1-clause-octets
unfolding read_identifier numbers_in leading_number
returns-in-EcdsaWithSha1-clause-octets c = rw c.in-EcdsaWithSha1.is refl

pub returns-in-EcdsaWithSha224-clause-octets : goal.returns-in-EcdsaWithSha224-clause-octets
unfolding read_identifier numbers_in leading_number
returns-in-EcdsaWithSha224-clause-octets c = rw c.in-EcdsaWithSha224.is refl

pub returns-in-EcdsaWithSha256-clause-octets : goal.returns-in-EcdsaWithSha256-clause-octets
unfolding read_identifier numbers_in leading_number
returns-in-EcdsaWithSha256-clause-octets c = rw c.in-EcdsaWithSha256.is refl

pub returns-in-EcdsaWithSha384-clause-octets : goal.returns-in-EcdsaWithSha384-clause-octets
unfolding read_identifier numbers_in leading_number
returns-in-EcdsaWithSha384-clause-octets c = rw c.in-EcdsaWithSha384.is refl

pub returns-in-EcdsaWithSha512-clause-octets : goal.returns-in-EcdsaWithSha512-clause-octets
unfolding read_identifier numbers_in leading_number
returns-in-EcdsaWithSha512-clause-octets c = rw c.in-EcdsaWithSha512.is refl

pub returns-in-Ed25519-clause-octets : goal.returns-in-Ed25519-clause-octets
unfolding read_identifier numbers_in leading_number
returns-in-Ed25519-clause-octets c = rw c.in-Ed25519.is refl

pub returns-in-Ed448-clause-octets : goal.returns-in-Ed448-clause-octets
unfolding read_identifier numbers_in leading_number
returns-in-Ed448-clause-octets c = rw c.in-Ed448.is refl

pub returns-in-X25519-clause-octets : goal.returns-in-X25519-clause-octets
unfolding read_identifier numbers_in leading_number
returns-in-X25519-clause-octets c = rw c.in-X25519.is refl

pub returns-in-X448-clause-octets : goal.returns-in-X448-clause-octets
unfolding read_identifier numbers_in leading_number
returns-in-X448-clause-octets c = rw c.in-X448.is refl

pub returns-in-Sha1-clause-octets : goal.returns-in-Sha1-clause-octets
unfolding read_identifier numbers_in leading_number
returns-in-Sha1-clause-octets c = rw c.in-Sha1.is refl

pub returns-in-Sha224-clause-octets : goal.returns-in-Sha224-clause-octets
unfolding read_identifier numbers_in leading_number
returns-in-Sha224-clause-octets c = rw c.in-Sha224.is refl

pub returns-in-Sha256-clause-octets : goal.returns-in-Sha256-clause-octets
unfolding read_identifier numbers_in leading_number
returns-in-Sha256-clause-octets c = rw c.in-Sha256.is refl

pub returns-in-Sha384-clause-octets : goal.returns-in-Sha384-clause-octets
unfolding read_identifier numbers_in leading_number
returns-in-Sha384-clause-octets c = rw c.in-Sha384.is refl

pub returns-in-Sha512-clause-octets : goal.returns-in-Sha512-clause-octets
unfolding read_identifier numbers_in leading_number
returns-in-Sha512-clause-octets c = rw c.in-Sha512.is refl
