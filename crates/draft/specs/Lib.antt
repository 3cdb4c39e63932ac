pub mod Draft
pub mod InnerParts
