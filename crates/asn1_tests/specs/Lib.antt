-- Values and types that tests name in contracts.
pub mod Identifiers
pub mod Encodings
pub mod Mixed
