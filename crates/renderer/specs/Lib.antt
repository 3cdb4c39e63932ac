pub mod Walk
pub mod Rendered
