mod Names
pub mod Laws
pub mod Neighbours
pub mod Text
pub mod Scalars
pub mod Characters
pub mod Lanes
pub mod Lookup
pub mod Tests
pub mod Samples
