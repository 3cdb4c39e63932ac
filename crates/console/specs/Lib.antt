pub mod Answers
pub mod InnerWritten
