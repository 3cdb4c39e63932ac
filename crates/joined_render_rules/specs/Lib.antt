pub mod Render
pub mod Claims
