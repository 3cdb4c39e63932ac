mod Names
pub mod Numbers
pub mod Pages
pub mod HouseShape
pub mod RoomBound
pub mod Merge
pub mod Drafts
