mod Names
pub mod Lines
pub mod Chunks
