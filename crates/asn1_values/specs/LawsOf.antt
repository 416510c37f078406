-- The laws of contents: the one place from which the definitions cite lemmas.
pub mod Values
