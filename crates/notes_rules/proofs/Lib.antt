mod Names
pub mod Lines
pub mod Thin
pub mod Texts
pub mod Stretches
pub mod Accepted
pub mod Stored
pub mod Printed
pub mod Depth
pub mod Given
pub mod Examples
