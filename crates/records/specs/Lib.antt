pub mod Records
pub mod Answers
pub mod Stored
pub mod Numbered
pub mod Listed
