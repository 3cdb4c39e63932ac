mod Names
pub mod Before
pub mod Merged
pub mod Whole
pub mod Listed
pub mod Ends
pub mod Laws
