pub mod Builder
pub mod Answers
pub mod InnerParts
