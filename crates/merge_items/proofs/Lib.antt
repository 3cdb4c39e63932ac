mod Names
pub mod Finding
pub mod Texts
pub mod Reading
