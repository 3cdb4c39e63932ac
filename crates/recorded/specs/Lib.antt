pub mod InnerCases
pub mod InnerTally
pub mod Spoken
pub mod Told
