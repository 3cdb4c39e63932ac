pub mod Local
pub mod Tokens
pub mod Kit
pub mod While
