mod Names
pub mod Capturing
pub mod Blocks
pub mod Walking
pub mod Whole
pub mod Encoding
