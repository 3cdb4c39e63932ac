mod Names
pub mod Bodies
pub mod Console
pub mod Html
pub mod Markdown
pub mod Roff
pub mod Laws
