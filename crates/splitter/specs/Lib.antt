pub mod Split
pub mod Answers
pub mod InnerParts
