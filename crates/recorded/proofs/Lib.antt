mod Names
pub mod Lengths
pub mod Running
pub mod Telling
