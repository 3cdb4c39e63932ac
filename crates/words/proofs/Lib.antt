mod Names
pub mod Copying
pub mod Chunks
pub mod Follow
pub mod Advance
pub mod Last
pub mod Space
