pub mod SamplesHold
pub mod TabstopsHold
