pub mod Counter
pub mod Answers
