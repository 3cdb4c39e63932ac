mod Names
pub mod Writing
pub mod Answering
pub mod Placing
