-- The laws of encodings, contents, fields and alternatives: the one place from which the definitions cite lemmas.
pub use Rattle.asn1_core.specs.LawsOf.Encodings
pub use Rattle.asn1_core.specs.LawsOf.Contents
pub use Rattle.asn1_values.specs.LawsOf.Values
pub mod Lists
pub mod Tagged
pub mod Defaults
pub mod Choices
pub mod Alternatives
pub mod Fields
pub mod Defined
pub mod Numbered
pub mod InHand
pub mod Dates
pub mod Relative
pub mod Identifiers
