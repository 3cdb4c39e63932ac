mod Names
pub mod Search
pub mod Tables
pub mod Whole
pub mod Entries
pub mod Ascii
pub mod Writing
pub mod Text
pub mod Going
pub mod Samples
