pub mod InnerShown
