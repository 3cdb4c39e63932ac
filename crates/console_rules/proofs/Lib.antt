mod Names
pub mod PassedOver
pub mod Misread
pub mod Printed
pub mod RecordPlaces
pub mod Margin
