mod Names
pub mod Merging
pub mod Whole
