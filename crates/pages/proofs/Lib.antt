mod Names
pub mod Rows
pub mod RowLists
pub mod Paging
pub mod Laws
pub mod Printed
pub mod Samples
