mod Names
pub mod Comparing
pub mod Filling
pub mod Answers
