pub mod Code
pub mod LawsOf
