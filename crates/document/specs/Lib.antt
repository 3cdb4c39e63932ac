pub mod Document
pub mod Answers
