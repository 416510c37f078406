-- The laws of values with numbers from a list.
use Rattle.std.specs.Prelude.{ℕ, List}
use Rattle.asn1_core.specs.declared.tag.Tag.{Tag}
use Rattle.asn1_core.specs.EncodingLaws.{ContentLaws}
use Rattle.asn1_core.specs.LawsOf.Encodings.{basic_laws}
use Rattle.asn1.specs.Listed.{numbered_content}
use Rattle.asn1.specs.Lemmas.Numbered.{listed_consumes, listed_read_back, listed_errors}

pub numbered_laws : (tag : Tag) (numbers : List ℕ) → ContentLaws (numbered_content tag numbers)
numbered_laws tag numbers = basic_laws _ (record { consumes = listed_consumes numbers; read_back = λ z v. listed_read_back numbers z v.0 v.1; errors = listed_errors numbers })
