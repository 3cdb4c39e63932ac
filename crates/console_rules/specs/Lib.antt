pub mod Console
pub mod RecordPlaces
pub mod Margin
