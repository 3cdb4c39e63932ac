pub mod InnerDepth
