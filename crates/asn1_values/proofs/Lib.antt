mod Bits
mod PlainTexts
mod FractionDigits
mod TimeOrder
mod TimeTexts
pub mod BitLists
pub mod Dotted
pub mod DottedTexts
pub mod IdentifierText
pub mod SameIdentifiers
pub mod SameNumbers
pub mod Shown
pub mod WideTexts
pub mod Written
