mod Names
pub mod Checking
