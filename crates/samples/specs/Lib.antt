pub mod Samples
pub mod Tabstops
