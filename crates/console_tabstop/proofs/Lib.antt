mod Names
pub mod Scans
pub mod Settled
pub mod Ahead
pub mod Passing
pub mod Searching
