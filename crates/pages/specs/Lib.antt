pub mod Pages
pub mod Order
pub mod RowList
pub mod Answers
pub mod InnerParts
