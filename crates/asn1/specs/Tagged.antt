-- Values under a tag of any class, or in an octet string (X.680 31.2, X.690 8.14).
use Rattle.std.specs.Prelude.{ℕ, Bool, true}
use Rattle.asn1_core.specs.declared.tag.Tag.{Tag}
use Rattle.asn1_core.specs.Reading.{whole}
use Rattle.asn1_core.specs.Encoding.{Content, Encoding}
use Rattle.asn1_core.specs.declared.tag.TagClass.TheVariants.{Application, Private}
use Rattle.asn1_core.specs.Tag.{class_of, tag_with}

-- Contents octets that are the encoding of one value. (X.690 8.14.2)
abbrev pub one_inside : {A : Type 0} → Tag → (d : Encoding A) → Content A
one_inside tag d = record {
  tag = tag;
  encoding = d.encoding;
  encodings = d.encodings;
  closures = d.closures;
  valid = d.valid;
  allowed = d.allowed;
  bounded = d.bounded;
  plain = d.plain;
  lawful = d.lawful;
  takes_memory = d.takes_memory;
  is_read = d.is_read;
  runs_out = d.runs_out;
  read = λ c. whole (d.read c);
}

-- The same contents octets under another tag. (X.690 8.14.3)
abbrev pub retagged : {M : Type 0} → (Tag → Tag) → Content M → Content M
retagged change c = record c {
  tag = change c.tag;
}

-- A tag of the class application, with this constructed bit and this number.
abbrev pub application_tag : Bool → ℕ → Tag
application_tag constructed n = tag_with Application constructed n

-- A tag of the class private, with this constructed bit and this number.
abbrev pub private_tag : Bool → ℕ → Tag
private_tag constructed n = tag_with Private constructed n

-- The tag n of an explicitly tagged type in the class with this number. (8.1.2.2; X.680 31.2)
abbrev pub explicit_tag_in : ℕ → ℕ → Tag
explicit_tag_in class n = tag_with (class_of class) true n

-- The tag n of an implicitly tagged type in the class with this number, whose own tag is `inner`. (8.1.2.2; X.680 31.2)
abbrev pub implicit_tag_in : ℕ → ℕ → Tag → Tag
implicit_tag_in class n inner = tag_with (class_of class) inner.constructed n
