pub mod Roff
pub mod Pieces
pub mod InnerParts
