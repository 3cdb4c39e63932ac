pub mod Shape
pub mod Answers
pub mod InnerSteps
pub mod Samples
