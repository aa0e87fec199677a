pub mod Over
pub mod Escaping
pub mod Woven
