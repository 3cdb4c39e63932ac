mod Names
pub mod Blocks
