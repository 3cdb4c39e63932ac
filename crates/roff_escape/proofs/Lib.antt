mod Names
pub mod Escaping
pub mod Plain
pub mod Buffer
pub mod Composing
