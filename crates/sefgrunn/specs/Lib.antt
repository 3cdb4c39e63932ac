pub mod Numbers
pub mod HouseShape
pub mod Figures
pub mod Merge
pub mod Drafts
