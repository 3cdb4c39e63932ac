pub mod Escape
pub mod Monoid
pub mod Composer
pub mod InnerParts
