pub mod InnerCounted
pub mod Answers
pub mod InnerAhead
