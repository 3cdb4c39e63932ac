pub mod Utf8
pub mod InnerNeighbours
pub mod InnerParts
