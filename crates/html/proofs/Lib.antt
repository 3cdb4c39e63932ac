mod Names
pub mod Turns
pub mod Walked
pub mod Whole
