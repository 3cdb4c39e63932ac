mod Names
pub mod Scans
pub mod Steps
