mod Names
pub mod Twice
pub mod Laws
pub mod Empty
pub mod Ends
pub mod Two
