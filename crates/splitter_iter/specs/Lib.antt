pub mod InnerStruct
