mod Names
pub mod Blocks
pub mod Runs
pub mod Machine
pub mod Loops
pub mod Laws
pub mod Accepted
pub mod Samples
