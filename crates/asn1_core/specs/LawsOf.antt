-- The laws of encodings and of contents: the one place from which the definitions cite lemmas.
pub mod Encodings
pub mod Contents
