mod Names
pub mod Before
pub mod Positions
pub mod Words
mod Lines
pub mod Starts
pub mod Stripped
pub mod Fits
pub mod Steps
pub mod Places
pub mod Answers
pub mod Kept
pub mod Say
