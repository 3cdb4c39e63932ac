mod Names
pub mod Flags
pub mod Texts
