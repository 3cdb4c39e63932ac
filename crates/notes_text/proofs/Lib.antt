mod Names
pub mod Writes
pub mod Ticks
pub mod Runs
