-- The laws of the contents of this crate.
use Rattle.std.specs.Prelude.{ℕ, ℤ, Result, refl}
use Rattle.std.specs.Fn.{Once}
use Rattle.std.specs.Borrow.{MutBor}
use Rattle.asn1_core.specs.declared.tag.Tag.{Tag}
use Rattle.asn1_core.specs.Encoding.{Encoding, basic}
use Rattle.asn1_core.specs.EncodingLaws.{ContentLaws, EncodingLaws}
use Rattle.asn1_core.specs.LawsOf.Encodings.{basic_laws}
use Rattle.asn1_core.specs.Boolean.{bool_content}
use Rattle.asn1_core.specs.Octets.{octets_content, sized_octets_content, null_content}
use Rattle.asn1_core.specs.Sized.{sized_content, non_zero, non_zero_content}
use Rattle.asn1_core.specs.SetWriting.{SetState, Written, WrittenLaws, written, items_written, listing_written, set_closure_written}
use Rattle.asn1_core.specs.Lemmas.Booleans.{bool_consumes, bool_read_back, bool_errors}
use Rattle.asn1_core.specs.Lemmas.Octets.{octets_consumes, sized_octets_consumes, sized_octets_read_back, sized_octets_errors, null_consumes, null_read_back, null_errors}
use Rattle.asn1_core.specs.Lemmas.Integers.{sized_consumes, sized_read_back, sized_errors, non_zero_consumes, non_zero_read_back, non_zero_errors}
use Rattle.asn1_core.specs.Lemmas.Contents.{rejects_all_consumes}
use Rattle.asn1_core.specs.Lemmas.Faults.{rejects_all_errors}
use Rattle.asn1_core.specs.Lemmas.Items.{AllByRecursion_all, joins_one_encoding, joins_has_encoding}
use Rattle.asn1_core.specs.Lemmas.Listing.{listing_one_encoding, listing_has_encoding}

pub bool_laws : ContentLaws bool_content
bool_laws = basic_laws _ (record { consumes = λ c m b e. (bool_consumes c m e, tt); read_back = λ m v. bool_read_back m; errors = bool_errors })

pub octets_laws : ContentLaws octets_content
octets_laws = basic_laws _ (record { consumes = octets_consumes; read_back = λ octets v. refl; errors = λ c. tt })

pub sized_octets_laws : (size : ℕ) → ContentLaws (sized_octets_content size)
sized_octets_laws size = basic_laws _ (record { consumes = sized_octets_consumes size; read_back = λ octets v. sized_octets_read_back size octets v.1; errors = sized_octets_errors size })

pub null_laws : ContentLaws null_content
null_laws = basic_laws _ (record { consumes = λ c m is e. (null_consumes c m e, tt); read_back = λ m v. null_read_back m; errors = null_errors })

pub sized_laws : (tag : Tag) (low high : ℤ) → ContentLaws (sized_content tag low high)
sized_laws tag low high = basic_laws _ (record { consumes = sized_consumes low high; read_back = sized_read_back low high; errors = sized_errors low high })

non_zero_basic_laws : (tag : Tag) (low high : ℤ) → ContentLaws (basic (non_zero tag low high))
non_zero_basic_laws tag low high = basic_laws _ (record { consumes = non_zero_consumes low high; read_back = λ z v. non_zero_read_back low high z v.0 v.1; errors = non_zero_errors low high })

pub non_zero_laws : (tag : Tag) (low high : ℤ) → ContentLaws (non_zero_content tag low high)
non_zero_laws tag low high =
    let laws = non_zero_basic_laws tag low high in
    record {
      one_encoding = laws.one_encoding;
      has_encoding = laws.has_encoding;
      no_closures = laws.no_closures;
      is_written = laws.is_written;
      consumes = laws.consumes;
      read_back = laws.read_back;
      one_value = λ is. absurd is;
      unbounded = laws.unbounded;
      memory = laws.memory;
      errors = laws.errors;
    }

-- ---- contents that are only written

pub written_laws : {M : Type 0} {w : Written M} → WrittenLaws w → ContentLaws (written w)
written_laws {M = M} laws = record {
  one_encoding = laws.one_encoding;
  has_encoding = laws.has_encoding;
  no_closures = laws.no_closures;
  is_written = λ p v. (v.0, laws.has_encoding p v.0 v.1);
  consumes = λ c m b e. absurd (rejects_all_consumes c m e);
  read_back = λ m l v a. absurd a;
  one_value = λ is. absurd is;
  unbounded = λ free m v. absurd (free tt);
  memory = λ c places out. out;
  errors = rejects_all_errors M;
}

pub items_laws : {M : Type 0} {e : Encoding M} → EncodingLaws e → ContentLaws (items_written e)
items_laws {e = e} laws = written_laws (record {
  one_encoding = λ p. joins_one_encoding e.encoding e.encodings (laws.one_encoding p);
  has_encoding = λ p. joins_has_encoding e.encoding e.encodings e.valid (laws.has_encoding p);
  no_closures = λ p. AllByRecursion_all e.closures (laws.no_closures p);
})

pub listing_laws : {M : Type 0} {e : Encoding M} → EncodingLaws e → ContentLaws (listing_written e)
listing_laws {e = e} laws = written_laws (record {
  one_encoding = λ p. listing_one_encoding e.encoding e.encodings (laws.one_encoding p);
  has_encoding = λ p. listing_has_encoding e.encoding e.encodings e.valid (laws.has_encoding p);
  no_closures = λ p. AllByRecursion_all e.closures (laws.no_closures p);
})

pub set_closure_laws : {F E : Type 0} (calls : Once F (MutBor SetState × Unit {0}) (Result (Unit {0}) E × (MutBor SetState × Unit {0}))) → ContentLaws (set_closure_written calls)
set_closure_laws calls = written_laws (record { one_encoding = λ p. absurd p; has_encoding = λ p. absurd p; no_closures = λ p. absurd p })
