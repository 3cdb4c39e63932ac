mod Names
pub mod Writing
pub mod Lines
pub mod Adding
