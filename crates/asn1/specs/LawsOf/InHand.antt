-- The laws of what wrappers hold: octets under the tag of a sequence, and what a closure writes.
use Rattle.std.specs.Prelude.{Result}
use Rattle.std.specs.Fn.{Once}
use Rattle.std.specs.Borrow.{MutBor}
use Rattle.asn1_core.specs.declared.writer.Writer.{Writer}
use Rattle.asn1_core.specs.Listing.{sequence_tag}
use Rattle.asn1_core.specs.EncodingLaws.{ContentLaws}
use Rattle.asn1_core.specs.LawsOf.Contents.{octets_laws, written_laws}
use Rattle.asn1.specs.InHand.{sequence_content, closure_written}
use Rattle.asn1.specs.LawsOf.Tagged.{retagged_laws}

pub sequence_content_laws : ContentLaws sequence_content
sequence_content_laws = retagged_laws (λ own. sequence_tag) octets_laws

pub closure_laws : {F E : Type 0} (calls : Once F (MutBor Writer × Unit {0}) (Result (Unit {0}) E × (MutBor Writer × Unit {0}))) → ContentLaws (closure_written calls)
closure_laws calls = written_laws (record { one_encoding = λ p. absurd p; has_encoding = λ p. absurd p; no_closures = λ p. absurd p })
