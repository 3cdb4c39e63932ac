mod Names
pub mod Pages
pub mod Chunks
pub mod Bodies
