mod Names
pub mod Refusals
pub mod Opening
pub mod Held
pub mod Walks
