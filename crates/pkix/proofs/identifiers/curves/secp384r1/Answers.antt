-- Printed by tools/derive from declarations/identifiers/curves.rs, with the sum 0ba080b4.
use Rattle.std.proofs.Common.{refl, sym}
use Rattle.asn1.specs.Base128.{leading_number}
use Rattle.asn1.specs.Identifier.{numbers_in, read_identifier}
use Rattle.asn1.specs.Lemmas.Results.{done_injective}
use Rattle.pkix.proofs.identifiers.curves.secp384r1.Goals as goal

pub known_identifier-requires : goal.known_identifier-requires
unfolding read_identifier numbers_in leading_number
known_identifier-requires c = refl

pub returns : goal.returns
unfolding read_identifier numbers_in leading_number
returns c = sym (done_injective _ _ c.known_identifier.ensures)
