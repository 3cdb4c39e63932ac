pub mod Notes
pub mod Without
pub mod Laws
