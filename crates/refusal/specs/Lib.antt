pub mod Numbers
pub mod Answers
