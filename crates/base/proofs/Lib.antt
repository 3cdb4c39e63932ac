mod Names
pub mod Choice
pub mod Bytes
pub mod Prefix
pub mod Stack
pub mod Parts
pub mod Results
pub mod Pasting
pub mod Counting
