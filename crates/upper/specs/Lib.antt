pub mod Table
pub mod Upper
pub mod InnerParts
