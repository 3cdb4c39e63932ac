mod Names
pub mod Pasting
pub mod Written
pub mod Answering
pub mod Records
pub mod Blocks
pub mod Numbers
pub mod Positions
