mod Names
pub mod Reading
pub mod Places
pub mod Flags
pub mod Records
pub mod Texts
pub mod Headings
pub mod Samples
pub mod Pages
