pub mod Texts
pub mod Items
