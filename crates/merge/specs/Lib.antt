pub mod Answers
pub mod InnerSteps
