pub mod Unticked
