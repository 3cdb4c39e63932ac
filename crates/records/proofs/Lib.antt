mod Names
pub mod Tokens
pub mod Tables
pub mod Reading
pub mod Codes
pub mod Taking
