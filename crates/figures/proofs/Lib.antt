mod Names
pub mod Laws
pub mod Counting
pub mod Texts
pub mod LargerRoom
pub mod Lent
pub mod Samples
