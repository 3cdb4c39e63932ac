mod Names
pub mod Writing
pub mod Standing
pub mod Order
