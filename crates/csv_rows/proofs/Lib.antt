pub mod Items
pub mod Laws
pub mod Plain
pub mod Tied
