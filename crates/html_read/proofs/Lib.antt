mod Names
pub mod Reading
pub mod Bodies
pub mod Samples
