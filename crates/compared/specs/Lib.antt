pub mod InnerCompared
