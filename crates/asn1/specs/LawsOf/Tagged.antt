-- The laws of values under a tag, from those of the values.
use Rattle.std.specs.Prelude.{[]}
use Rattle.asn1_core.specs.declared.tag.Tag.{Tag}
use Rattle.asn1_core.specs.Encoding.{Content, Encoding, simple_encoding}
use Rattle.asn1_core.specs.EncodingLaws.{ContentLaws, EncodingLaws}
use Rattle.asn1_core.specs.LawsOf.Encodings.{simple_laws}
use Rattle.asn1_core.specs.Lemmas.Faults.{whole_errors}
use Rattle.asn1_core.proofs.Inside.{inside_consumes, inside_read_back}
use Rattle.asn1.specs.Tagged.{one_inside, retagged}

pub one_inside_laws : {A : Type 0} (tag : Tag) {d : Encoding A} → EncodingLaws d → ContentLaws (one_inside tag d)
one_inside_laws tag {d = d} ld = record {
  one_encoding = ld.one_encoding;
  has_encoding = ld.has_encoding;
  no_closures = ld.no_closures;
  is_written = λ p v. (v.0, ld.has_encoding p v.0 v.1);
  consumes = inside_consumes d.encoding (λ m. d.valid m × d.allowed m) d.read ld.consumes;
  read_back = λ m l v a s. inside_read_back d.accepts d.encoding d.read m (ld.nothing_or_element m l v) (ld.read_back m [] l v a) s;
  one_value = ld.one_value;
  unbounded = ld.unbounded;
  memory = ld.memory;
  errors = λ c. whole_errors (d.read c) (ld.errors c);
}

pub retagged_laws : {M : Type 0} (change : Tag → Tag) {c : Content M} → ContentLaws c → ContentLaws (retagged change c)
retagged_laws change lc = record {
  one_encoding = lc.one_encoding;
  has_encoding = lc.has_encoding;
  no_closures = lc.no_closures;
  is_written = lc.is_written;
  consumes = lc.consumes;
  read_back = lc.read_back;
  one_value = lc.one_value;
  unbounded = lc.unbounded;
  memory = lc.memory;
  errors = lc.errors;
}

-- a value in an element with this tag
pub inside_laws : {A : Type 0} (tag : Tag) {d : Encoding A} → EncodingLaws d → EncodingLaws (simple_encoding (one_inside tag d))
inside_laws tag ld = simple_laws (one_inside_laws tag ld)

-- a value whose tag is changed
pub changed_laws : {A : Type 0} (change : Tag → Tag) {d : Encoding A} → EncodingLaws d → EncodingLaws (simple_encoding (retagged change d.content))
changed_laws change ld = simple_laws (retagged_laws change ld.of_content)
