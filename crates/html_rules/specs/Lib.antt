pub mod Marks
pub mod Html
pub mod Markdown
