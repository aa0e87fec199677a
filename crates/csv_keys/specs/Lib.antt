pub mod Keys
pub mod Ways
