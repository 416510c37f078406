pub mod Framing
pub mod Hosts
pub mod Issued
