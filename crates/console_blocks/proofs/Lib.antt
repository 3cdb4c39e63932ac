mod Names
pub mod Depths
pub mod Blocks
