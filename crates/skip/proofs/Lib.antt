mod Names
pub mod Counter
pub mod Blocks
