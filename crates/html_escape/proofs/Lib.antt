mod Names
pub mod Escapes
pub mod Entities
