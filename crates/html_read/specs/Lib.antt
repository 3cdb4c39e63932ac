pub mod Read
pub mod Forms
pub mod Claims
