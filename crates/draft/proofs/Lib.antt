mod Names
pub mod Packing
pub mod Places
pub mod Holding
pub mod Calls
pub mod Sequence
pub mod Documents
