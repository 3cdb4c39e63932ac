mod Names
pub mod Nesting
pub mod Adding
pub mod Titles
pub mod Blocks
pub mod Laws
