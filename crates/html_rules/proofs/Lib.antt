pub mod Lifts
pub mod Rest
pub mod Accepted
pub mod Listed
