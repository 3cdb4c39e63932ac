pub mod Choice
pub mod Bytes
pub mod Result
pub mod Stack
pub mod Tests
