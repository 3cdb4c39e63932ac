pub mod InnerAdvance
