mod Names
pub mod White
pub mod WhiteBytes
pub mod Ends
pub mod AtEnd
pub mod Points
pub mod Trim
pub mod Counting
pub mod Samples
