pub mod Texts
pub mod Advance
