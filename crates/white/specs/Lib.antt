pub mod White
pub mod InnerParts
