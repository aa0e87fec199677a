pub mod Laws
pub mod Decimals
pub mod Escapes
pub mod Weaving
