pub mod InnerLines
pub mod InnerAdding
