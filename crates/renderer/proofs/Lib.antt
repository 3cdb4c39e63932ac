mod Names
pub mod Shown
pub mod Leads
pub mod Keeps
pub mod Clearing
pub mod Answers
