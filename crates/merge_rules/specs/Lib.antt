pub mod Merge
pub mod InnerEnds
