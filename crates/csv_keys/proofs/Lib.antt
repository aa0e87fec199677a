pub mod Items
pub mod Codes
pub mod Compare
pub mod Rows
