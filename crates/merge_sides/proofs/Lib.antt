mod Names
pub mod Filling
pub mod Sides
pub mod Listing
