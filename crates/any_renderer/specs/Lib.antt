pub mod InnerRenders
