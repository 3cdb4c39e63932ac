pub mod OrderLaws
pub mod BlockBodies
