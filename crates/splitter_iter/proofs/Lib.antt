mod Names
pub mod Left
