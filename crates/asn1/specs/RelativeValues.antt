-- The arcs of Rust's relative object identifiers, and their `Content`.
use Rattle.std.specs.Prelude.{ℕ, List, [], Option, Some, None}
use Rattle.asn1.specs.declared.relative_oid.RelativeOid.{RelativeOid}
use Rattle.asn1_core.specs.Tag.{universal}
use Rattle.asn1_core.specs.Encoding.{Content, basic}
use Rattle.asn1_values.specs.Identifier.{identifier_content, identifier_numbers}
use Rattle.asn1.specs.Relative.{IsRelative, read_relative}

-- The arcs of a `RelativeOid`.
abbrev pub relative_arcs : RelativeOid → List ℕ
relative_arcs o = identifier_numbers o.octets.now

-- The arcs of a `RelativeOid`, or none where there is none.
abbrev pub left_arcs : Option RelativeOid → List ℕ
left_arcs None = []
left_arcs (Some o) = relative_arcs o

-- Every relative object identifier, with the tag 13.
abbrev pub relative_content : Content (List ℕ)
relative_content = basic (record {
  tag = universal 13;
  encoding = identifier_content;
  valid = IsRelative;
  read = read_relative;
})
