pub mod InnerCopies
pub mod InnerAdvance
