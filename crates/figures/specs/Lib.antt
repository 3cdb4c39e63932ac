pub mod Bundle
pub mod InnerParts
pub mod Samples
